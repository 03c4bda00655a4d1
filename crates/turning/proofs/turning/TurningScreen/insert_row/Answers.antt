use Rattle.std.proofs.Common.{◌-◌, ap, ◌∙◌, arith}
use Rattle.turning.specs.Order.{turned_by}
use Rattle.turning.proofs.Turns.{down_permutes}
use Rattle.turning.proofs.Turned.{reads, reads_permutes, row_below_on, insert_through}
use Rattle.turning.proofs.turning.TurningScreen.insert_row.Goals as goal

pub row-freed-requires-clause-order : goal.row-freed-requires-clause-order
row-freed-requires-clause-order g c =
    let t = c.args.self.now in
    let m = reads _ _ _ _ _ (g.S.Screen.grid t.below.now) c.fitted-order.ensures.at c.fitted-order.ensures.rows c.rows-rows.ensures in
    reads_permutes _ _ _ _ _ _ t.ordered (g.S.Screen.sound t.below.now) m

pub invariant_of-self-2 : goal.invariant_of-self-2
invariant_of-self-2 g c =
    let t = c.args.self.now in
    let m = reads _ _ _ _ _ (g.S.Screen.grid t.below.now) c.fitted-order.ensures.at c.fitted-order.ensures.rows c.rows-rows.ensures in
    let p = reads_permutes _ _ _ _ _ _ t.ordered (g.S.Screen.sound t.below.now) m in
    record { ordered = down_permutes _ _ c.args.row _ _ (omega (arith, m.count)) p c.turned_down-self.ensures.moved c.turned_down-self.ensures.rows }

pub returns-clause-answer : goal.returns-clause-answer
returns-clause-answer g c =
    let t = c.args.self.now in
    let m = reads _ _ _ _ _ (g.S.Screen.grid t.below.now) c.fitted-order.ensures.at c.fitted-order.ensures.rows c.rows-rows.ensures in
    let low = row_below_on _ _ _ _ _ _ (c.rows-rows.result - 1) _ t.ordered (g.S.Screen.sound t.below.now) m (omega arith) c.row-freed.ensures in
    grind (arith, low, m.rows)

pub returns-clause-grid : goal.returns-clause-grid
returns-clause-grid g c =
    let t = c.args.self.now in
    let m = reads _ _ _ _ _ (g.S.Screen.grid t.below.now) c.fitted-order.ensures.at c.fitted-order.ensures.rows c.rows-rows.ensures in
    let y = c.turned_down-self.result in
    ap (turned_by y.at y.rows) c.clear_row.ensures.grid
    ∙ insert_through _ _ _ _ _ _ _ _ _ _ t.ordered (g.S.Screen.sound t.below.now) m c.if-row-rows.false c.row-freed.ensures c.turned_down-self.ensures.moved c.turned_down-self.ensures.rows
