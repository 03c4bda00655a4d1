-- What an area without room is refused with.
use Rattle.std.specs.Prelude.{ℕ, cond, List, Ok, Err, Result}
use Rattle.area.specs.declared.Refusal.{Refusal}
use Rattle.area.specs.declared.Refusal.TheVariants.{ShortArea}
use Rattle.area.specs.Over.{fits}

-- done where so many octets have room in the area from a place on, and else the refusal
abbrev pub room : List ℕ → ℕ → ℕ → Result (Unit {0}) Refusal
room area place count = cond (fits area place count) (Ok tt) (Err ShortArea)
