-- The block check.
use Rattle.std.specs.Prelude.{ℕ, List, [], ◌∷◌, bit_xor}

-- the exclusive or of all characters
abbrev pub block_check : List ℕ → ℕ
block_check [] = 0
block_check (c ∷ cs) = bit_xor c (block_check cs)
