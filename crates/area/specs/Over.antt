-- Octets written over an area.
use Rattle.std.specs.Prelude.{ℕ, ◌+◌, Bool, List, ◌++◌, length, take, drop, nat_le}

-- so many octets have room in the area from a place on
abbrev pub fits : List ℕ → ℕ → ℕ → Bool
fits area place count = nat_le (place + count) (length area)

-- the octets, and behind them what was there before
abbrev pub over : {A : Type 0} → List A → List A → List A
over octets area = octets ++ drop (length octets) area

-- the area with the octets from a place on, and before and behind them what was there
abbrev pub written_at : List ℕ → ℕ → List ℕ → List ℕ
written_at area place octets = take place area ++ over octets (drop place area)
