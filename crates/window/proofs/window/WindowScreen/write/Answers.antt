use Rattle.std.proofs.Common.{◌≡◌, min, length, Err, refl, ap, ◌∙◌}
use Rattle.std.proofs.lemmas.Result.{err_from_is_err_and}
use Rattle.screen.specs.declared.refusal.Refusal.TheVariants.{OffScreen}
use Rattle.screen.specs.Answers.{done_if}
use Rattle.screen.proofs.Views.{write_off, unwritten_off, not_found, writable_through, written_through}
use Rattle.window.specs.Part.{corner, windowed, outside}
use Rattle.window.proofs.Edges.{into, outside_written}
use Rattle.window.proofs.window.WindowScreen.write.Goals as goal

pub returns-in_err-to : goal.returns-in_err-to
returns-in_err-to g c =
    let t = c.args.self.now in
    let T = windowed t.rows t.columns (g.S.Screen.grid t.below.now) in
    let off = not_found T c.args.place _ c.in_err-to.field-0.0 c.in_err-to.ensures in
    let p = err_from_is_err_and c.from_residual.result c.from_residual.ensures.1 in
    let r : c.from_residual.result ≡ Err OffScreen = cc (p.1, p.2, off.1) in
    record {
      rest = refl;
      answer = r ∙ write_off T c.args.place c.args.code (length T.cells) refl off.0;
      grid = unwritten_off T c.args.place c.args.code c.args.mark (length T.cells) refl off.0;
    }

pub returns : goal.returns
returns g c =
    let t = c.args.self.now in
    let b = t.below.now in
    let G = g.S.Screen.grid b in
    let s = g.S.Screen.sound b in
    let f = corner G.columns (min t.columns G.columns) in
    let i = into t.rows t.columns G t.column_least s in
    let e = c.write.ensures in
    let to = c.in_ok-to.to in
    let found = c.in_ok-to.ensures in
    let out = ap (outside t.rows t.columns) e.grid ∙ outside_written t.rows t.columns G c.args.place to c.args.code c.args.mark t.column_least s found in
    record {
      rest = cc (e.rest, out);
      answer = e.answer ∙ ap done_if (writable_through f _ _ G c.args.place to c.args.code i found);
      grid = ap (windowed t.rows t.columns) e.grid ∙ written_through f _ _ G c.args.place to c.args.code c.args.mark i found;
    }
