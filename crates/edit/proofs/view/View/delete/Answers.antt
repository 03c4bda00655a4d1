use Rattle.std.proofs.Common.{◌∙◌, arith}
use Rattle.edit.specs.Shown.{shown}
use Rattle.edit.proofs.PartsDrawn.{delete_more}
use Rattle.edit.proofs.view.View.delete.Goals as goal

pub loop-k-preserved : goal.loop-k-preserved
loop-k-preserved g c =
    let i = c.loop-k.invariant in
    let e = c.write.ensures in
    let next = c.cell_before-code.result in
    record {
      beside = cc (e.rest, i.beside);
      cursor = i.cursor;
      grid = e.grid ∙ delete_more (shown c.args.self.now).grid (shown c.loop-k.self).grid c.args.self.now.cursor c.args.end c.loop-k.k (omega arith) (omega arith) (omega arith)
          next.0 next.1 c.cell_before-code.ensures.stored c.cell_before-code.ensures.value i.grid;
    }
