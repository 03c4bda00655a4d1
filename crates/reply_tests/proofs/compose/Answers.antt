use Rattle.std.proofs.Common.{◌≡◌, [], ◌∷◌, ◌++◌, subst}
use Rattle.std.proofs.lemmas.List.{append_assoc}
use Rattle.codes.specs.Ascii.{STX, ETX}
use Rattle.reply.specs.Octets.{soh_first}
use Rattle.reply.specs.Progress.{Shows}
use Rattle.reply_tests.proofs.compose.Goals as goal

pub returns : goal.returns
returns g c =
    let before = c.args.area.now in
    let ack = c.args.acknowledgement.now in
    let text = c.args.text.now in
    let begun = c.in_ok-reply.ensures.begins in
    let addressed = c.in_ok-addressed.ensures.extends before soh_first [] begun in
    let acknowledged = c.in_ok-acknowledged.ensures.extends before soh_first (0x31 ∷ 0x61 ∷ 0x70 ∷ []) addressed in
    let started = c.in_ok-started.ensures.extends before soh_first (0x31 ∷ 0x61 ∷ 0x70 ∷ ack) acknowledged in
    let told = c.in_ok-told.ensures.extends before soh_first (0x31 ∷ 0x61 ∷ 0x70 ∷ (ack ++ (STX ∷ []))) started in
    let ended = c.in_ok-ended.ensures.extends before soh_first (0x31 ∷ 0x61 ∷ 0x70 ∷ ((ack ++ (STX ∷ [])) ++ text)) told in
    let shown = c.in_ok-closed.ensures.ends before soh_first (0x31 ∷ 0x61 ∷ 0x70 ∷ (((ack ++ (STX ∷ [])) ++ text) ++ (ETX ∷ []))) ended in
    let joined : ((ack ++ (STX ∷ [])) ++ text) ++ (ETX ∷ []) ≡ ack ++ (STX ∷ (text ++ (ETX ∷ []))) = simp append_assoc in
    subst (λ t. Shows g.L.Line.kind before soh_first (0x31 ∷ 0x61 ∷ 0x70 ∷ t) c.in_ok-closed.closed c.close.new.area) joined shown
