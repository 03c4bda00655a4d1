-- A reply is sent.
use Rattle.std.specs.Prelude.{◌≡◌, ℕ, List, length, Ok, Result}
use Rattle.area.specs.Over.{over}
use Rattle.area.specs.declared.Refusal.{Refusal}

-- its octets are written over the area that there was, and counted
pub record Sends (octets : List ℕ) (result : Result ℕ Refusal) (had has : List ℕ) : Type 0 where
  pub area : has ≡ over octets had
  pub count : result ≡ Ok (length octets)
