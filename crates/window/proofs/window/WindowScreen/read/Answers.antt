use Rattle.std.proofs.Common.{◌≡◌, min, length, Err, refl, ◌∙◌}
use Rattle.std.proofs.lemmas.Result.{err_from_is_err_and}
use Rattle.screen.specs.declared.refusal.Refusal.TheVariants.{OffScreen}
use Rattle.screen.proofs.Views.{read_off, not_found, read_through}
use Rattle.window.specs.Part.{corner, windowed}
use Rattle.window.proofs.Edges.{into}
use Rattle.window.proofs.window.WindowScreen.read.Goals as goal

pub returns-in_err-from : goal.returns-in_err-from
returns-in_err-from g c =
    let t = c.args.self.now in
    let T = windowed t.rows t.columns (g.S.Screen.grid t.below.now) in
    let off = not_found T c.args.place _ c.in_err-from.field-0.0 c.in_err-from.ensures in
    let p = err_from_is_err_and c.from_residual.result c.from_residual.ensures.1 in
    let r : c.from_residual.result ≡ Err OffScreen = cc (p.1, p.2, off.1) in
    r ∙ read_off T c.args.place (length T.cells) refl off.0

pub returns : goal.returns
returns g c =
    let t = c.args.self.now in
    let b = t.below.now in
    let G = g.S.Screen.grid b in
    c.read.ensures
    ∙ read_through (corner G.columns (min t.columns G.columns)) _ _ G c.args.place c.in_ok-from.from (into t.rows t.columns G t.column_least (g.S.Screen.sound b)) c.in_ok-from.ensures
