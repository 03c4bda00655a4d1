-- A call does what an outcome says.
use Rattle.std.specs.Prelude.{◌≡◌, ℕ, List, Result}
use Rattle.area.specs.Over.{over}
use Rattle.console.specs.declared.answer.Answer.{Answer}
use Rattle.station.specs.Station.{Outcome}

-- it is answered so, its reply is written over the area that it had, and this state is left
pub record Does {R S : Type 0} (o : Outcome R S) (result : Result Answer R) (had has : List ℕ) (left : S) : Type 0 where
  pub answer : result ≡ o.answer
  pub area : has ≡ over o.reply had
  pub after : left ≡ o.after
