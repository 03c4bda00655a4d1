-- A damaged message in a history has no effect.
use Rattle.std.proofs.Common.{◌≡◌, ℕ, ltb, List, [], ◌∷◌, ◌++◌, Ok, Err, Result, sym, refl, subst}
use Rattle.std.specs.List.{AllByRecursion}
use Rattle.std.proofs.lemmas.Bool.{cond_both, le-ltb}
use Rattle.line.specs.Kind.{Kind, GivesBack, DetectsOneBit, InRange}
use Rattle.receiver.specs.declared.receive.Event as receive
use Rattle.receiver.specs.declared.receive.Event.TheVariants.{Nothing, Begun, Message}
use Rattle.receiver.specs.declared.fault.Fault.{Fault}
use Rattle.receiver.specs.Receiving.{idle}
use Rattle.console.specs.declared.fault.OctetRefusal.{OctetRefusal}
use Rattle.station.specs.declared.identity.Identity.{Identity}
use Rattle.station.specs.Station.{Outcome}
use Rattle.station.specs.Terminal.{State, heard_by, heard_outcome}
use Rattle.history.specs.Trace.{Event, key, octet, Transition, outcome_of, Leads, Reached}
use Rattle.history.specs.Words.{octet_in, octets_in, Taken, began, WithoutEffect}
use Rattle.history.specs.Law.{IgnoresDamage}
use Rattle.history.proofs.OneBit.{Front, IdleOutOfStep, CompletesNone, next, heard, heard_all, NoneCompleted, heard_keeps, damaged_completes_none}

abbrev front_of : State → Front
front_of s = record { wants = s.wants; receiver = s.receiver }

module _ (k : Kind) where
  heard_append : (f : Front) (os ps : List ℕ) → heard_all k f (os ++ ps) ≡ heard_all k (heard_all k f os) ps
  heard_append f [] ps = refl
  heard_append f (o ∷ os) ps = heard_append (heard k f o) os ps

  none_completed_parts : (f : Front) (os ps : List ℕ) → NoneCompleted k f (os ++ ps) → NoneCompleted k f os × NoneCompleted k (heard_all k f os) ps
  none_completed_parts f [] ps n = (tt, n)
  none_completed_parts f (o ∷ os) ps n = let r = none_completed_parts (heard k f o) os ps n.1 in ((n.0, r.0), r.1)

  module _ (id : Identity) where
    -- whatever line and receiver answered, the station leaves them
    heard_front : (a : Result receive.Event Fault) (kept : List ℕ) (s : State) → front_of (heard_outcome k id a kept s).after ≡ front_of s
    heard_front (Ok Nothing) kept s = refl
    heard_front (Ok Begun) kept s = refl
    heard_front (Ok (Message n)) kept s = refl
    heard_front (Err f) kept s = refl

    heard_silent : (a : Result receive.Event Fault) → CompletesNone a → (kept : List ℕ) (s : State)
        → ((heard_outcome k id a kept s).reply ≡ []) × ((heard_outcome k id a kept s).after.station ≡ s.station)
    heard_silent (Ok Nothing) none kept s = (refl, refl)
    heard_silent (Ok Begun) none kept s = (refl, refl)
    heard_silent (Ok (Message n)) none kept s = absurd none
    heard_silent (Err f) none kept s = (refl, refl)

    -- a key leaves line and receiver, and an octet goes through them
    event_front : (e : Event) (s : State) → Taken e → front_of (outcome_of k id e s).after ≡ heard_all k (front_of s) (octet_in e)
    event_front (key c) s t = refl
    event_front (octet o room) s t = rw (le-ltb room 5800 t) (heard_front (next k (front_of s) o).answer _ (heard_by k o s))

    event_silent : (e : Event) (s : State) → Taken e → NoneCompleted k (front_of s) (octet_in e)
        → WithoutEffect e s (outcome_of k id e s).reply (outcome_of k id e s).after
    event_silent (key c) s t n = tt
    event_silent (octet o room) s t n = rw (le-ltb room 5800 t) (heard_silent (next k (front_of s) o).answer n.0 _ (heard_by k o s))

    event_keeps : (e : Event) (s : State) → IdleOutOfStep (front_of s) → IdleOutOfStep (front_of (outcome_of k id e s).after)
    event_keeps (key c) s i = i
    event_keeps (octet o room) s i =
        cond_both (ltb room 5800) _ _ (λ (x : Outcome OctetRefusal State). IdleOutOfStep (front_of x.after)) (λ _. i)
        (λ _. subst IdleOutOfStep (sym (heard_front (next k (front_of s) o).answer _ (heard_by k o s))) (heard_keeps k (front_of s) o i))

    module _ (first : State) where
      -- the invariant holds in every state that is reached from an idle one
      invariant : first.receiver ≡ idle → (h : List Transition) (t : State) → Leads k id first h t → IdleOutOfStep (front_of t)
      invariant i [] t l = rw (← l) (λ _. i)
      invariant i (x ∷ past) t l = rw (← l.2, ← l.1) (event_keeps x.event x.before (invariant i past x.before l.0))

      -- what led to the state in which the newer transitions began
      leads_before : (newer past : List Transition) (t : State) → Leads k id first (newer ++ past) t → Leads k id first past (began newer t)
      leads_before [] past t l = l
      leads_before (x ∷ newer) past t l = leads_before newer past x.before l.0

      -- transitions whose octets complete no message: line and receiver have heard these octets, and none had an effect
      segment : (xs past : List Transition) (t : State) → Leads k id first (xs ++ past) t → AllByRecursion (λ x. Taken x.event) xs
          → NoneCompleted k (front_of (began xs t)) (octets_in xs)
          → (front_of t ≡ heard_all k (front_of (began xs t)) (octets_in xs))
          × AllByRecursion (λ x. WithoutEffect x.event x.before x.outcome.reply x.outcome.after) xs
      segment [] past t l a n = (refl, tt)
      segment (x ∷ xs) past t l a n =
          let parts = none_completed_parts (front_of (began xs x.before)) (octets_in xs) (octet_in x.event) n in
          let r = segment xs past x.before l.0 a.1 parts.0 in
          let here : NoneCompleted k (front_of x.before) (octet_in x.event) = rw r.0 parts.1 in (
            rw (← l.2, ← l.1, heard_append, ← r.0) (event_front x.event x.before a.0),
            (rw (← l.1) (event_silent x.event x.before a.0 here), r.1),
          )

  pub ignores_damage : GivesBack k → DetectsOneBit k → InRange k → (id : Identity) (h : List Transition) (t : State) → Reached k id h t
      → IgnoresDamage k h t
  ignores_damage back detects range id h t r newer [] past e d a n = tt
  ignores_damage back detects range id h t r newer (x ∷ xs) past e d a n =
      let s = began xs x.before in
      let l = leads_before id r.first newer (x ∷ (xs ++ past)) t (rw e at r.leads) in
      let i = invariant id r.first r.new.receiver past s (leads_before id r.first xs past x.before l.0) in
      (segment id r.first (x ∷ xs) past (began newer t) l a (damaged_completes_none k back detects range (octets_in (x ∷ xs)) d (front_of s) i n)).1
