-- A map of protection bits, eight to a byte, the lowest first.
use Rattle.std.specs.Prelude.{◌≡◌, ℕ, ◌/◌, ◌%◌, ◌^◌, ◌<◌, Bool, ◌==◌, ◌≢◌}

-- the bit j of a byte
unfoldable pub bit_of : ℕ → ℕ → Bool
bit_of b j = (b / 2 ^ j) % 2 == 1

-- `new` is `old` but for the bit `at`
pub record Marked (old at : ℕ) (mark : Bool) (new : ℕ) : Type 0 where
  pub same : bit_of new at ≡ mark
  pub others : (j : ℕ) → j < 8 → (j ≢ at) → bit_of new j ≡ bit_of old j
