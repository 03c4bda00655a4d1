-- What a caller sees of an event is what the definition says: no reply to a key, and the reply to an octet in the area.
use Rattle.std.proofs.Common.{◌≡◌, ℕ, ◌<◌, ◌≤◌, ltb, List, length, take, Ok, Err, Result, sym, refl, ap, ◌∙◌, arith}
use Rattle.std.proofs.lemmas.Bool.{cond_both, cond-true, cond-false, lt-ltb}
use Rattle.line.specs.Kind.{Kind}
use Rattle.receiver.specs.declared.fault.Fault as below
use Rattle.receiver.specs.declared.receive.Event.{Event}
use Rattle.receiver.specs.declared.receive.Event.TheVariants as event
use Rattle.receiver.specs.Hearing.{hear}
use Rattle.console.specs.declared.fault.KeyRefusal.{KeyRefusal}
use Rattle.console.specs.declared.fault.MessageFault.{MessageFault}
use Rattle.console.specs.declared.fault.OctetRefusal.{OctetRefusal}
use Rattle.console.specs.declared.fault.OctetRefusal.TheVariants as refusal
use Rattle.area.specs.declared.Refusal.TheVariants.{ShortArea}
use Rattle.station.specs.declared.identity.Identity.{Identity}
use Rattle.console.specs.Messages.{MessageAction, answer_poll, repeat, carry_out, decide_message}
use Rattle.station.specs.Station.{Station, Outcome, silent, message_outcome}
use Rattle.station.specs.Terminal.{State, keyed, told, heard_by, heard_outcome, taken, received}
use Rattle.console.specs.declared.answer.Answer.{Answer}
use Rattle.history.specs.Trace.{key, octet, outcome_of}
use Rattle.terminal.specs.Does.{Does}
use Rattle.terminal.specs.Seen.{reply_length, seen_key, seen_octet}
use Rattle.terminal.proofs.Front.{written_first}

module _ (k : Kind) (id : Identity) where
  message_told : (n : ℕ) (r : Result MessageAction MessageFault) (s : Station)
      → reply_length (told n (message_outcome k id r s).answer) ≡ length (message_outcome k id r s).reply
  message_told n (Err f) s = refl
  message_told n (Ok (answer_poll a)) s = refl
  message_told n (Ok (repeat q)) s = refl
  message_told n (Ok (carry_out t)) s = refl

  heard_told : (x : Result Event below.Fault) (kept : List ℕ) (s : State)
      → reply_length (heard_outcome k id x kept s).answer ≡ length (heard_outcome k id x kept s).reply
  heard_told (Ok event.Nothing) kept s = refl
  heard_told (Ok event.Begun) kept s = refl
  heard_told (Ok (event.Message n)) kept s = message_told n (decide_message id.identifiers s.station.console.outstanding kept) s.station
  heard_told (Err f) kept s = refl

  -- an octet with too short an area, and one that is taken
  pub received_short : (c room : ℕ) (s : State) → room < 5800 → received k id c room s ≡ silent (Err (refusal.Area ShortArea)) s
  received_short c room s h = cond-true (ltb room 5800) _ _ (lt-ltb room 5800 h)

  pub received_taken : (c room : ℕ) (s : State) → 5800 ≤ room → received k id c room s ≡ taken k id c s
  received_taken c room s h = cond-false (ltb room 5800) _ _ (grind arith)

  reply_told : (c room : ℕ) (s : State) → reply_length (received k id c room s).answer ≡ length (received k id c room s).reply
  reply_told c room s =
      cond_both (ltb room 5800) _ (taken k id c s) (λ (o : Outcome OctetRefusal State). reply_length o.answer ≡ length o.reply) (λ _. refl)
      (λ _. heard_told (hear k s.wants s.receiver c).answer _ (heard_by k c s))

pub key_seen : (k : Kind) (id : Identity) (c : ℕ) (s : State) (r : Result Answer KeyRefusal) (t : State) → r ≡ (keyed c s).answer → t ≡ (keyed c s).after → outcome_of k id (key c) s ≡ seen_key r t
key_seen k id c s r t a b = cc

pub octet_seen : (k : Kind) (id : Identity) (c : ℕ) (before : List ℕ) (s : State) (r : Result Answer OctetRefusal) (area : List ℕ) (t : State)
    → Does (received k id c (length before) s) r before area t → outcome_of k id (octet c (length before)) s ≡ seen_octet r area t
octet_seen k id c before s r area t d =
    let o : Outcome OctetRefusal State = received k id c (length before) s in
    let first : take (reply_length r) area ≡ o.reply =
    ap (λ x. take (reply_length x) area) d.answer ∙ ap (λ n. take n area) (reply_told k id c (length before) s) ∙ ap (take (length o.reply)) d.area ∙ written_first o.reply before in
    let p : o.reply ≡ take (reply_length r) area = sym first in
    let a = d.answer in
    let b = d.after in
    cc
