use Rattle.std.proofs.Common.{true, false, arith, rules}
use Rattle.std.proofs.lemmas.Iterator.{first_from_Range}
use Rattle.edit.specs.Writing.{is_protected}
use Rattle.edit.proofs.Runs.{Tests, FirstNot, first_not_if}
use Rattle.edit.proofs.store.open_from.Goals as goal

pub returns : goal.returns
returns g c =
    let cs = (g.S.Screen.grid c.args.screen.now).cells in
    let end = c.cell_count.result in
    let r = c.find.result in
    let found : FirstNot is_protected cs c.args.from end r =
    first_from_Range _ _ _ r (Tests is_protected cs false) (Tests is_protected cs true) c.find.ensures.ran (λ x q k. search rules) (λ x q k. search rules) in
    first_not_if is_protected cs c.args.from end r (omega arith) (omega arith) found
