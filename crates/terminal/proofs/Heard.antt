-- The two ways of an octet that is taken: line and receiver refuse it, or the terminal answers what they heard.
use Rattle.std.proofs.Common.{◌≡◌, ℕ, List, Ok, Err, Result, ap, arith}
use Rattle.line.specs.Kind.{Kind}
use Rattle.receiver.specs.declared.fault.Fault as below
use Rattle.receiver.specs.declared.receive.Event.{Event}
use Rattle.console.specs.declared.fault.Fault.{Fault}
use Rattle.console.specs.declared.fault.OctetRefusal.TheVariants as refusal
use Rattle.station.specs.declared.identity.Identity.{Identity}
use Rattle.station.specs.Station.{silent}
use Rattle.station.specs.Terminal.{State, heard_fault, heard_outcome}

module _ (k : Kind) (id : Identity) (kept : List ℕ) (s : State) where
  pub outcome_heard : (x : Result Event below.Fault) (e : Event) → ◌≡◌ {A = Result Event Fault} (Ok e) (heard_fault x) → heard_outcome k id (Ok e) kept s ≡ heard_outcome k id x kept s
  outcome_heard (Ok y) e h = let same : e ≡ y = cc in ap (λ z. heard_outcome k id (Ok z) kept s) same
  outcome_heard (Err f) e h = let z : ◌≡◌ {A = ℕ} 0 1 = cc in absurd (omega arith)

  pub outcome_refused : (x : Result Event below.Fault) (f : Fault) → ◌≡◌ {A = Result Event Fault} (Err f) (heard_fault x) → silent (Err (refusal.Fault f)) s ≡ heard_outcome k id x kept s
  outcome_refused (Ok y) f h = let z : ◌≡◌ {A = ℕ} 0 1 = cc in absurd (omega arith)
  outcome_refused (Err y) f h = let same : f ≡ record { cause = _; kept = _ } = cc in ap (λ z. silent (Err (refusal.Fault z)) s) same
