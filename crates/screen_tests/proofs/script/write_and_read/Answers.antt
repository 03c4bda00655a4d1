use Rattle.std.proofs.Common.{ℕ, Bool, Result, sym, ap, ◌∙◌}
use Rattle.screen.specs.declared.refusal.Refusal.{Refusal}
use Rattle.screen.specs.Grid.{writable}
use Rattle.screen.specs.Answers.{on_screen, read_at}
use Rattle.screen.proofs.Answers.{on_ok}
use Rattle.screen.proofs.Grids.{reads_back}
use Rattle.screen_tests.proofs.script.write_and_read.Goals as goal

pub returns : goal.returns
returns g c =
    let G = g.S.Screen.grid c.args.screen.now in
    let p = c.args.place in
    let x : ℕ × Bool = (c.args.code, c.args.mark) in
    let e = c.in_ok-write.ensures in
    let w = (on_ok (writable G p c.args.code) tt tt e.answer).0 in
    let R : Bool → Result (ℕ × Bool) Refusal = λ b. on_screen b x in
    c.read.ensures ∙ ap (λ y. read_at y p) e.grid ∙ reads_back G p c.args.code c.args.mark w ∙ sym (ap R w)
