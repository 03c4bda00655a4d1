use Rattle.std.proofs.Common.{◌≡◌, ◌+◌, ◌%◌, get_or, set, length, sym, ap, ◌∙◌, arith}
use lib.Seq.{paste}
use Rattle.std.proofs.lemmas.List.{length-map, get_or-map}
use Rattle.std.proofs.lemmas.List.Edits.{paste_more}
use Rattle.reply.specs.Octets.{octets}
use Rattle.reply.proofs.octets.encode.Goals as goal

pub loop-i-preserved : goal.loop-i-preserved
loop-i-preserved g c =
    let k = g.L.Line.kind in
    let cs = c.args.characters.now in
    let part = c.args.part.now in
    let i = c.loop-i.i in
    let os = octets k cs in
    let long : length os ≡ length cs = length-map cs (λ x. k.octet (x % 128)) in
    let here : c.encode.result ≡ get_or os i 0 = c.encode.ensures ∙ sym (get_or-map (λ x. k.octet (x % 128)) cs i 0 0 (omega arith)) in
    ap (λ a. set a i c.encode.result) c.loop-i.invariant
    ∙ ap (λ o. set (paste part 0 os i) i o) here
    ∙ ap (λ j. set (paste part 0 os i) j (get_or os i 0)) {x = i} {y = 0 + i} (omega arith)
    ∙ paste_more part 0 os i 0 (omega arith) (omega arith)
