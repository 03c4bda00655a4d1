use Rattle.std.proofs.Common.{ap, ◌∙◌, arith}
use Rattle.turning.specs.Order.{turned_by}
use Rattle.turning.proofs.Turned.{reads, reads_permutes, row_below_on, clear_through}
use Rattle.turning.proofs.turning.TurningScreen.clear_row.Goals as goal

pub row-requires-clause-order : goal.row-requires-clause-order
row-requires-clause-order g c =
    let t = c.args.self.now in
    let m = reads _ _ _ _ _ (g.S.Screen.grid t.below.now) c.fitted-order.ensures.at c.fitted-order.ensures.rows c.rows-rows.ensures in
    reads_permutes _ _ _ _ _ _ t.ordered (g.S.Screen.sound t.below.now) m

pub returns-clause-answer : goal.returns-clause-answer
returns-clause-answer g c =
    let t = c.args.self.now in
    let m = reads _ _ _ _ _ (g.S.Screen.grid t.below.now) c.fitted-order.ensures.at c.fitted-order.ensures.rows c.rows-rows.ensures in
    let low = row_below_on _ _ _ _ _ _ c.args.row _ t.ordered (g.S.Screen.sound t.below.now) m (omega arith) c.row.ensures in
    grind (arith, low, m.rows)

pub returns-clause-grid : goal.returns-clause-grid
returns-clause-grid g c =
    let t = c.args.self.now in
    let m = reads _ _ _ _ _ (g.S.Screen.grid t.below.now) c.fitted-order.ensures.at c.fitted-order.ensures.rows c.rows-rows.ensures in
    ap (turned_by t.order.at t.order.rows) c.clear_row.ensures.grid
    ∙ clear_through _ _ _ _ _ _ _ _ t.ordered (g.S.Screen.sound t.below.now) m c.if-row-rows.false c.row.ensures
