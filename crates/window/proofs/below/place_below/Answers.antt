use Rattle.std.proofs.Common.{◌≡◌, ◌*◌, ◌<◌, min, ap, ◌∙◌, arith}
use Rattle.window.proofs.Edges.{place_through, off_window}
use Rattle.window.proofs.below.place_below.Goals as goal

pub returns-then-place-height : goal.returns-then-place-height
returns-then-place-height g c =
    let G = g.S.Screen.grid c.args.below.now in
    let eh : c.min-height.result ≡ min c.args.rows G.rows = c.min-height.ensures ∙ ap (min c.args.rows) c.rows.ensures in
    let ew : c.min-width.result ≡ min c.args.columns G.columns = c.min-width.ensures ∙ ap (min c.args.columns) c.columns.ensures in
    off_window c.args.rows c.args.columns G c.args.place _ (c.min-height.result * c.min-width.result) (ap (λ x. x * c.min-width.result) eh ∙ ap (λ x. min c.args.rows G.rows * x) ew) c.if-place-height.true

pub returns : goal.returns
returns g c =
    let G = g.S.Screen.grid c.args.below.now in
    let eh : c.min-height.result ≡ min c.args.rows G.rows = c.min-height.ensures ∙ ap (min c.args.rows) c.rows.ensures in
    let ew : c.min-width.result ≡ min c.args.columns G.columns = c.min-width.ensures ∙ ap (min c.args.columns) c.columns.ensures in
    let on : c.args.place < min c.args.rows G.rows * c.min-width.result = omega (arith, ap (λ x. x * c.min-width.result) eh, c.if-place-height.false) in
    c.place.ensures ∙ place_through c.args.rows c.args.columns G c.args.place c.min-width.result c.requires.some (g.S.Screen.sound c.args.below.now) ew on
