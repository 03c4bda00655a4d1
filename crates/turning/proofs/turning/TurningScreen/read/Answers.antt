use Rattle.std.proofs.Common.{◌∙◌}
use Rattle.screen.proofs.Views.{read_through}
use Rattle.turning.specs.Order.{under, fitted}
use Rattle.turning.proofs.Through.{into}
use Rattle.turning.proofs.turning.TurningScreen.read.Goals as goal

pub returns : goal.returns
returns g c =
    let t = c.args.self.now in
    let b = t.below.now in
    let G = g.S.Screen.grid b in
    c.read.ensures
    ∙ read_through (under (fitted t.order.at t.order.rows G.rows) G.columns) _ _ G c.args.place c.in_ok-from.from (into t.order.at t.order.rows G t.ordered (g.S.Screen.sound b)) c.in_ok-from.ensures
