-- Every transition keeps the invariant, and every history the law.
use Rattle.std.proofs.Common.{◌≡◌, ℕ, Bool, false, ltb, List, [], ◌∷◌, IfOk, Some, None, Ok, Err, Option, Result, refl, subst, arith}
use mathlib.Core.Bool.{and-false}
use lib.ListN.{get_or-map}
use Rattle.std.specs.List.{AllByRecursion}
use Rattle.std.proofs.lemmas.Bool.{cond_both}
use Rattle.line.specs.Kind.{Kind, GivesBack, DetectsOneBit, InRange}
use Rattle.receiver.specs.declared.fault.Fault as below
use Rattle.receiver.specs.declared.receive.Event as receiving
use Rattle.receiver.specs.declared.receive.Event.TheVariants.{Nothing, Begun, Message}
use Rattle.receiver.specs.Hearing.{hear}
use Rattle.screen.specs.Cells.{blank}
use Rattle.text.specs.Steps.{Step, steps_of}
use Rattle.edit.specs.View.{View}
use Rattle.edit.specs.Edits.{edited}
use Rattle.edit.specs.Writing.{stored}
use Rattle.edit.specs.Laws.{OnScreen, caption, captions}
use Rattle.edit.proofs.Keeps.{edited_on, stored_on}
use Rattle.edit.proofs.Captions.{captions_edited, captions_stored}
use Rattle.transmission.specs.Laws.{Plain}
use Rattle.transmission.proofs.Plainness.{taken_plain}
use Rattle.host.specs.Carrying.{taking}
use Rattle.host.specs.Laws.{steps_before}
use Rattle.host.proofs.Steps.{drawn_all_on, taken_before}
use Rattle.console.specs.declared.answer.Answer.{Answer}
use Rattle.console.specs.declared.fault.KeyRefusal.{KeyRefusal}
use Rattle.console.specs.declared.fault.MessageFault.{MessageFault}
use Rattle.station.specs.declared.fault.Refusal.{Refusal}
use Rattle.station.specs.declared.fault.Refusal.TheVariants.{Key, Octet}
use Rattle.station.specs.declared.identity.Identity.{Identity}
use Rattle.console.specs.declared.key.KeyAction.{KeyAction}
use Rattle.console.specs.declared.key.KeyAction.TheVariants.{Store, Edit, Transmit, Call, Unlock}
use Rattle.console.specs.declared.outstanding.Outstanding.{Outstanding}
use Rattle.console.specs.Messages.{MessageAction, answer_poll, repeat, carry_out, decide_message}
use Rattle.station.specs.Station.{Station, Outcome, said, silent, key_outcome, action_now, message_outcome}
use Rattle.station.specs.Terminal.{State, with_station, heard_by, told, heard_outcome}
use Rattle.history.specs.Trace.{Event, key, octet, Transition, widened, outcome_of, Leads, New}
use Rattle.history.specs.Words.{Every, left_by_host, kept_in, took_by, last_taken, carried_since}
use Rattle.history.specs.Law.{SendsLastTaken, AcknowledgesWhenDue, Law, KeepsLaw}
use Rattle.history.proofs.Actions.{KeyAccepted, key_accepted, MessageAccepted, message_accepted, heard_kept}
use Rattle.history.proofs.Damage.{ignores_damage}
use Rattle.history.proofs.Invariant.{Shown, Consistent, Invariant, new_invariant}
use Rattle.history.proofs.Replies.{shows_outstanding, poll_shows}

abbrev transition : Event → State → Outcome Refusal State → Transition
transition e s o = record { event = e; before = s; outcome = o }

-- one more event, in the state s after this past: the invariant after it, and what the law says of its transition
record Keeps (k : Kind) (s : State) (past : List Transition) (e : Event) (o : Outcome Refusal State) : Type 0 where
  invariant : Invariant k (transition e s o ∷ past) o.after.station
  sent : SendsLastTaken k (transition e s o) past
  due : AcknowledgesWhenDue k (transition e s o) past

-- another view with the same captions
same_captions : (left : ℕ → Option ℕ) (v w : View) → Shown left v → OnScreen w → captions w.grid ≡ captions v.grid → Shown left w
same_captions left v w shown on same = record {
  on_screen = on;
  captions = λ p. cc (get_or-map caption v.grid.cells p blank, get_or-map caption w.grid.cells p blank, shown.captions p);
}

-- what a host text's transmission takes is plain
taking_plain : (ss : List Step) (v : View) → OnScreen v → (t : List ℕ) → taking false ss v ≡ Some t → AllByRecursion Plain t
taking_plain ss v on t e =
    let there = drawn_all_on false (steps_before ss) v on in
    let same = taken_before false ss v in
    grind (arith, taken_plain)

-- what becomes of a key, and of a whole message of n characters, with this action or refusal
abbrev outcome_of_key : Result KeyAction KeyRefusal → State → Outcome Refusal State
outcome_of_key r s =
    let o : Outcome KeyRefusal Station = key_outcome r s.station in
    widened Key (silent o.answer (with_station s o.after))

abbrev outcome_of_message : Kind → Identity → ℕ → Result MessageAction MessageFault → State → Outcome Refusal State
outcome_of_message k id n r s =
    let o : Outcome MessageFault Station = message_outcome k id r s.station in
    widened Octet (record { answer = told n o.answer; reply = o.reply; after = with_station s o.after })

module _ (k : Kind) (s : State) (past : List Transition) (i : Invariant k past s.station) where
  -- without a reply, only the invariant is to show
  silent_keeps : (e : Event) (a : Result Answer Refusal) (t : State) → Invariant k (transition e s (silent a t) ∷ past) t.station
      → Keeps k s past e (silent a t)
  silent_keeps e a t after = record { invariant = after; sent = λ x q. cc; due = λ l. absurd (omega arith) }

  -- a refusal leaves the station as it was; t has line and receiver after it
  refused_keeps : (e : Event) (t : State) (r : Refusal) → Keeps k s past e (silent (Err r) (with_station t s.station))
  refused_keeps e t r = silent_keeps e _ _ (record { shown = i.shown; counted = omega arith; console = i.console })

  -- an event that takes up, acknowledges and carries out nothing, and leaves the station x
  quiet_keeps : (e : Event) (t : State) (x : Station) → x.console.held ≡ s.station.console.held
      → Shown (left_by_host past) x.view → Consistent (last_taken past) (carried_since k past) x.console
      → Keeps k s past e (silent (said false false false None) (with_station t x))
  quiet_keeps e t x same shown console = silent_keeps e _ _ (record { shown = shown; counted = grind arith; console = console })

  -- a key, by its action
  key_keeps : (c : ℕ) (r : Result KeyAction KeyRefusal) → IfOk r (KeyAccepted c s.station) → Keeps k s past (key c) (outcome_of_key r s)
  key_keeps c (Err r) a = refused_keeps (key c) s (Key r)
  key_keeps c (Ok (Store x)) a =
      let v = s.station.view in
      quiet_keeps (key c) s _ refl (same_captions _ v (stored x v) i.shown (stored_on x v a i.shown.on_screen) (captions_stored x v a)) i.console
  key_keeps c (Ok (Edit e)) a =
      let v = s.station.view in
      quiet_keeps (key c) s _ refl (same_captions _ v (edited e v) i.shown (edited_on e v i.shown.on_screen) (captions_edited e v a)) i.console
  key_keeps c (Ok (Transmit m)) a =
      let v = s.station.view in
      silent_keeps (key c) _ _ (record {
        shown = i.shown;
        counted = grind arith;
        console = record {
          holds = (refl, cc, taken_plain m v i.shown.on_screen);
          backed = grind arith;
          calls = i.console.calls;
          due = i.console.due;
        };
      })
  key_keeps c (Ok (Call x)) a =
      quiet_keeps (key c) s _ refl i.shown (record { holds = i.console.holds; backed = i.console.backed; calls = (a, tt); due = i.console.due })
  key_keeps c (Ok Unlock) a =
      quiet_keeps (key c) s _ refl i.shown (record { holds = grind arith; backed = i.console.backed; calls = i.console.calls; due = i.console.due })

  module _ (back : GivesBack k) (id : Identity) (o room : ℕ) where
    abbrev KeepsMessage : ℕ → Result MessageAction MessageFault → Type 0
    KeepsMessage n r = Keeps k s past (octet o room) (outcome_of_message k id n r (heard_by k o s))

    -- a poll, by what its reply shows and leaves
    poll_keeps : (n : ℕ) (a : Bool) → MessageAccepted s (answer_poll a) → KeepsMessage n (Ok (answer_poll a))
    poll_keeps n a form =
        let reply = poll_shows k back id a s.station.console (last_taken past) i.console.holds i.console.backed i.console.calls in
        record {
          invariant = record {
            shown = i.shown;
            counted = omega arith;
            console = record { holds = reply.holds; backed = reply.backed; calls = reply.calls; due = grind arith };
          };
          sent = reply.text;
          due = λ l none. grind arith;
        }

    -- a repeat shows the outstanding reply once more, and no fresh acknowledgement
    repeat_keeps : (n : ℕ) (q : Outstanding) → MessageAccepted s (repeat q) → KeepsMessage n (Ok (repeat q))
    repeat_keeps n q a =
        let backed = rw a.1 at i.console.backed in
        let reply = shows_outstanding k back id q s.station.console (last_taken past) i.console.holds backed i.console.calls in
        record {
          invariant = record { shown = i.shown; counted = omega arith; console = rw (a.0, and-false) i.console };
          sent = reply.text;
          due = λ l none. grind arith;
        }

    -- a host text takes up what its first transmission takes, unless a text is held
    carry_out_keeps : (n : ℕ) (t : List ℕ) → MessageAccepted s (carry_out t) → KeepsMessage n (Ok (carry_out t))
    carry_out_keeps n t form =
        let v = s.station.view in
        let ss = steps_of t in
        let plain = taking_plain ss v i.shown.on_screen in
        let takes : took_by (octet o room) s ≡ taking false ss v = rw (form, taken_before false ss v) in
        silent_keeps (octet o room) _ _ (record {
          shown = record { on_screen = drawn_all_on false ss v i.shown.on_screen; captions = λ p. refl };
          counted = grind arith;
          console = record { holds = grind arith; backed = grind arith; calls = i.console.calls; due = refl };
        })

    message_keeps : (n : ℕ) (r : Result MessageAction MessageFault) → IfOk r (MessageAccepted s) → KeepsMessage n r
    message_keeps n (Ok (answer_poll a)) form = poll_keeps n a form
    message_keeps n (Ok (repeat q)) a = repeat_keeps n q a
    message_keeps n (Ok (carry_out t)) form = carry_out_keeps n t form
    message_keeps n (Err f) a = refused_keeps (octet o room) (heard_by k o s) _

    -- an octet, by what line and receiver make of it
    heard_keeps : (r : Result receiving.Event below.Fault) (kept : List ℕ) → ((n : ℕ) → r ≡ Ok (Message n) → kept ≡ kept_in s.receiver)
        → Keeps k s past (octet o room) (widened Octet (heard_outcome k id r kept (heard_by k o s)))
    heard_keeps (Ok Nothing) kept whole = quiet_keeps (octet o room) (heard_by k o s) _ refl i.shown i.console
    heard_keeps (Ok Begun) kept whole = quiet_keeps (octet o room) (heard_by k o s) _ refl i.shown i.console
    heard_keeps (Ok (Message n)) kept whole =
        message_keeps n (decide_message id.identifiers s.station.console.outstanding kept) (message_accepted id s kept (whole n refl))
    heard_keeps (Err f) kept whole = refused_keeps (octet o room) (heard_by k o s) _

module _ (k : Kind) (back : GivesBack k) (id : Identity) where
  event_keeps : (s : State) (past : List Transition) → Invariant k past s.station → (e : Event) → Keeps k s past e (outcome_of k id e s)
  event_keeps s past i (key c) = key_keeps k s past i c (action_now c s.station) (key_accepted c s.station)
  event_keeps s past i (octet o room) =
      let next = hear k s.wants s.receiver o in
      cond_both (ltb room 5800) _ _ (λ x. Keeps k s past (octet o room) (widened Octet x)) (λ _. refused_keeps k s past i (octet o room) s _)
      (λ _. heard_keeps k s past i back id o room next.answer next.message (heard_kept k s.wants s.receiver o))

  history_keeps : (s : State) → New s → (h : List Transition) (t : State) → Leads k id s h t
      → Invariant k h t.station × Every (SendsLastTaken k) h × Every (AcknowledgesWhenDue k) h
  history_keeps s new [] t l = (rw (← l) (new_invariant k s new), tt, tt)
  history_keeps s new (x ∷ past) t l =
      let before = history_keeps s new past x.before l.0 in
      let here = subst (Keeps k x.before past x.event) l.1 (event_keeps x.before past before.0 x.event) in
      (rw (← l.2) here.invariant, (here.sent, before.1), (here.due, before.2))

pub lawful : (k : Kind) → GivesBack k → DetectsOneBit k → InRange k → (id : Identity) → Law k id
lawful k back detects range id h t r =
    let kept = history_keeps k back id r.first r.new h t r.leads in
    let i = kept.0 in
    record {
      captions = i.shown.captions;
      on_screen = i.shown.on_screen.on;
      counted = i.counted;
      one_ahead = grind arith;
      locked = λ e. grind arith;
      sent = kept.1;
      due = kept.2;
      damage = ignores_damage k back detects range id h t r;
    }

-- an event with the outcome of the definition keeps the law
pub follows : (k : Kind) → GivesBack k → DetectsOneBit k → InRange k → (id : Identity) (e : Event) (s : State) (o : Outcome Refusal State)
    → outcome_of k id e s ≡ o → KeepsLaw k id e s o
follows k back detects range id e s o q past r =
    lawful k back detects range id (transition e s o ∷ past) o.after (record { first = r.first; new = r.new; leads = (r.leads, q, refl) })
