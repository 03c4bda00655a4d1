use Rattle.std.proofs.Common.{ap, ◌∙◌}
use Rattle.screen.specs.Answers.{done_if}
use Rattle.screen.proofs.Views.{writable_through, written_through}
use Rattle.turning.specs.Order.{under, fitted, turned_by}
use Rattle.turning.proofs.Through.{into}
use Rattle.turning.proofs.turning.TurningScreen.write.Goals as goal

pub returns-clause-answer : goal.returns-clause-answer
returns-clause-answer g c =
    let t = c.args.self.now in
    let G = g.S.Screen.grid t.below.now in
    let i = into t.order.at t.order.rows G t.ordered (g.S.Screen.sound t.below.now) in
    c.write.ensures.answer ∙ ap done_if (writable_through (under (fitted t.order.at t.order.rows G.rows) G.columns) _ _ G c.args.place c.in_ok-to.to c.args.code i c.in_ok-to.ensures)

pub returns-clause-grid : goal.returns-clause-grid
returns-clause-grid g c =
    let t = c.args.self.now in
    let G = g.S.Screen.grid t.below.now in
    let i = into t.order.at t.order.rows G t.ordered (g.S.Screen.sound t.below.now) in
    ap (turned_by t.order.at t.order.rows) c.write.ensures.grid ∙ written_through (under (fitted t.order.at t.order.rows G.rows) G.columns) _ _ G c.args.place c.in_ok-to.to c.args.code c.args.mark i c.in_ok-to.ensures
