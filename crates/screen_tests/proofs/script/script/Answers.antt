use Rattle.std.proofs.Common.{arith}
use Rattle.std.proofs.lemmas.Nat.{mul-le}
use Rattle.screen_tests.proofs.script.script.Goals as goal

pub overflow_sub-end : goal.overflow_sub-end
overflow_sub-end g c =
    let s = g.S.Screen.sound c.args.screen.now in
    mul-le 1 1 _ _ (omega (arith, c.rows-rows.ensures, s.row_least)) (omega (arith, c.columns-columns.ensures, s.column_least))

pub overflow_sub-end-2 : goal.overflow_sub-end-2
overflow_sub-end-2 g c =
    let s = g.S.Screen.sound c.args.screen.now in
    mul-le 1 1 _ _ (omega (arith, c.rows-rows.ensures, s.row_least)) (omega (arith, c.columns-columns.ensures, s.column_least))
