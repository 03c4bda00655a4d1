use Rattle.std.proofs.Common.{◌∙◌, arith}
use Rattle.edit.specs.Shown.{shown}
use Rattle.edit.proofs.PartsDrawn.{erase_more}
use Rattle.edit.proofs.view.View.erase.Goals as goal

pub loop-k-preserved : goal.loop-k-preserved
loop-k-preserved g c =
    let i = c.loop-k.invariant in
    let e = c.write.ensures in
    record {
      beside = cc (e.rest, i.beside);
      cursor = i.cursor;
      grid = e.grid ∙ erase_more (shown c.args.self.now).grid (shown c.loop-k.self).grid c.args.self.now.cursor c.args.end c.loop-k.k (omega arith) (omega arith) (omega arith) i.grid;
    }
