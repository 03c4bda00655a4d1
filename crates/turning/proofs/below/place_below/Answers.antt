use Rattle.std.proofs.Common.{◌∙◌, arith}
use Rattle.turning.proofs.Turned.{reads, reads_permutes}
use Rattle.turning.proofs.Through.{place_through, length_turned}
use Rattle.turning.proofs.below.place_below.Goals as goal

pub row-to-requires-clause-order : goal.row-to-requires-clause-order
row-to-requires-clause-order g c =
    let m = reads _ _ _ _ _ (g.S.Screen.grid c.args.below.now) c.fitted.ensures.at c.fitted.ensures.rows c.rows-rows.ensures in
    reads_permutes _ _ _ _ _ _ c.requires (g.S.Screen.sound c.args.below.now) m

pub returns-in_err-row : goal.returns-in_err-row
returns-in_err-row g c =
    let long = length_turned c.args.order.at c.args.order.rows (g.S.Screen.grid c.args.below.now) (g.S.Screen.sound c.args.below.now) in
    grind (arith, long)

pub returns : goal.returns
returns g c =
    let m = reads _ _ _ _ _ (g.S.Screen.grid c.args.below.now) c.fitted.ensures.at c.fitted.ensures.rows c.rows-rows.ensures in
    c.place.ensures
    ∙ place_through _ _ _ _ _ _ c.args.place _ _ _ c.requires (g.S.Screen.sound c.args.below.now) m c.in_ok-row.ensures c.row-to.ensures
