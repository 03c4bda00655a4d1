use Rattle.std.proofs.Common.{ℕ, List, sym, ap, ◌∙◌, subst, arith}
use Rattle.turning.specs.Order.{turned, Permutes, natural_permutes}
use Rattle.turning.proofs.Turned.{fitted_own, turned_natural}
use Rattle.turning.proofs.turning.Turning.new.Goals as goal

pub invariant_of-result : goal.invariant_of-result
invariant_of-result g c =
    let o = c.natural-order.result in
    let e = c.natural-order.ensures in
    let P : List ℕ → Type 0 = λ x. Permutes x o.rows in
    record { ordered = subst P (sym e.at) (natural_permutes o.rows (omega (arith, e.rows, c.rows-rows.ensures, (g.S.Screen.sound c.args.below.now).row_most))) }

pub returns-clause-grid : goal.returns-clause-grid
returns-clause-grid g c =
    let b = c.args.below.now in
    let G = g.S.Screen.grid b in
    let o = c.natural-order.result in
    let e = c.natural-order.ensures in
    ap (λ x. turned x G) (fitted_own o.at o.rows G.rows (e.rows ∙ c.rows-rows.ensures) ∙ e.at) ∙ turned_natural G (g.S.Screen.sound b)
