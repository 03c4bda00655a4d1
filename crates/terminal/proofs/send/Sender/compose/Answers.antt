use Rattle.std.proofs.Common.{◌≡◌, ℕ, List, [], ◌∷◌, ◌++◌, Ok, ap, subst}
use Rattle.std.proofs.lemmas.List.{append_assoc}
use Rattle.codes.specs.Ascii.{ETX}
use Rattle.reply.specs.Octets.{soh_first}
use Rattle.reply.specs.Progress.{Shows}
use Rattle.console.specs.Console.{DID}
use Rattle.terminal.proofs.send.Sender.compose.Goals as goal

pub returns : goal.returns
returns g c =
    let before = c.args.area.now in
    let ack = c.args.acknowledgement.now in
    let first = c.args.first.now in
    let text = c.args.text.now in
    let station = c.args.self.now.identity.identifiers in
    let from : List ℕ → List ℕ = λ t. station.rid ∷ (station.sid ∷ (DID ∷ t)) in
    let begun = c.in_ok-reply.ensures.begins in
    let addressed = c.in_ok-addressed.ensures.extends before soh_first [] begun in
    let acknowledged = c.in_ok-acknowledged.ensures.extends before soh_first (from []) addressed in
    let started = c.in_ok-started.ensures.extends before soh_first (from ack) acknowledged in
    let told = c.in_ok-told.ensures.extends before soh_first (from (ack ++ first)) started in
    let ended = c.in_ok-ended.ensures.extends before soh_first (from ((ack ++ first) ++ text)) told in
    let shown = c.in_ok-close.ensures.ends before soh_first (from (((ack ++ first) ++ text) ++ (ETX ∷ []))) ended in
    let joined : ((ack ++ first) ++ text) ++ (ETX ∷ []) ≡ (ack ++ (first ++ text)) ++ (ETX ∷ []) = simp append_assoc in
    let whole : Shows g.L.Line.kind before soh_first (from ((ack ++ (first ++ text)) ++ (ETX ∷ []))) c.in_ok-close.field-0 c.close.new.area =
    subst (λ t. Shows g.L.Line.kind before soh_first (from t) c.in_ok-close.field-0 c.close.new.area) joined shown in
    record { area = whole.octets; count = ap Ok whole.count }
