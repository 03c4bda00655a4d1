-- A run: a list of events one after the other, and what it leaves.
use Rattle.std.specs.Prelude.{◌≡◌, ℕ, List, [], ◌∷◌, ◌++◌, Result}
use Rattle.area.specs.Over.{over}
use Rattle.line.specs.Kind.{Kind}
use Rattle.console.specs.declared.answer.Answer.{Answer}
use Rattle.station.specs.declared.fault.Refusal.{Refusal}
use Rattle.station.specs.declared.identity.Identity.{Identity}
use Rattle.station.specs.Terminal.{State}
use Rattle.history.specs.Trace.{Event, Transition, Leads, Reached}
use Rattle.history.specs.Law.{Lawful}

-- what is read off a history, in the order of time
abbrev pub in_order : {X : Type 0} → (Transition → X) → List Transition → List X
in_order f [] = []
in_order f (x ∷ past) = in_order f past ++ (f x ∷ [])

-- the area after the replies of a history, each over what was there before
abbrev pub replied_over : List ℕ → List Transition → List ℕ
replied_over area [] = area
replied_over area (x ∷ past) = over x.outcome.reply (replied_over area past)

-- from the state s and an area, these events led to the state t and another area, and were answered so
pub record Ran (k : Kind) (id : Identity) (events : List Event) (answers : List (Result Answer Refusal)) (s t : State) (before after : List ℕ) : Type 0 where
  pub history : List Transition
  pub leads : Leads k id s history t
  pub happened : in_order (λ x. x.event) history ≡ events
  pub answered : in_order (λ x. x.outcome.answer) history ≡ answers
  pub area : after ≡ replied_over before history

-- and after any history that led to s, the whole is lawful
pub record RanLawfully (k : Kind) (id : Identity) (events : List Event) (answers : List (Result Answer Refusal)) (s t : State) (before after : List ℕ) : Type 0 where
  pub ran : Ran k id events answers s t before after
  pub law : (past : List Transition) → Reached k id past s → Lawful k (ran.history ++ past) t
