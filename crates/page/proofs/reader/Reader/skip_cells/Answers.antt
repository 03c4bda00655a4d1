use Rattle.std.proofs.Common.{◌∙◌}
use Rattle.std.proofs.lemmas.Result.{err_from_is_err_and}
use Rattle.page.specs.Walk.{rest_of}
use Rattle.page.proofs.Cells.{end_more, refused_at}
use Rattle.page.proofs.reader.Reader.skip_cells.Goals as goal

pub returns-in_err-cell : goal.returns-in_err-cell
returns-in_err-cell c =
    let p = err_from_is_err_and c.from_residual.result c.from_residual.ensures.1 in
    rw (p.1, p.2)
    (refused_at c.args.count c.loop.counter (rest_of c.args.self.now) (rest_of c.loop.self) _ c.loop-test.true c.loop.invariant c.in_err-cell.ensures)

pub loop-preserved : goal.loop-preserved
loop-preserved c =
    c.loop.invariant
    ∙ end_more c.args.count c.loop.counter (rest_of c.loop.self) _ _ c.loop-test.true c.in_ok-cell.ensures
