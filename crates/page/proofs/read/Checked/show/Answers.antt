use Rattle.std.proofs.Common.{◌≡◌, ◌*◌, length, eqb}
use Rattle.std.proofs.lemmas.Bool.{and_parts, eqb-true}
use Rattle.page.proofs.Trips.{page_shown}
use Rattle.page.proofs.read.Checked.show.Goals as goal

pub returns : goal.returns
returns g c =
    let s = c.args.screen.now in
    let G = g.S.Screen.grid s in
    let h = c.args.self.header in
    let size = and_parts (eqb h.rows G.rows) (eqb h.columns G.columns) c.requires in
    let rows = eqb-true _ _ size.0 in
    let columns = eqb-true _ _ size.1 in
    let filled = (g.S.Screen.sound s).filled in
    let count : h.rows * h.columns ≡ length G.cells = cc in
    record { rest = c.draw.ensures.rest; shown = λ os f. page_shown os c.args.self G _ f c.requires (c.draw.ensures.grid f.cells f.ahead count) }
