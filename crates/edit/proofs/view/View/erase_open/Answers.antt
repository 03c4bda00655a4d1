use Rattle.std.proofs.Common.{get_or, sym, ◌∙◌, arith}
use Rattle.std.proofs.lemmas.Bool.{not-true, not-false}
use Rattle.screen.specs.Cells.{blank}
use Rattle.edit.specs.Shown.{shown}
use Rattle.edit.proofs.PartsDrawn.{erase_open_more, erase_open_keeps}
use Rattle.edit.proofs.view.View.erase_open.Goals as goal
use Rattle.edit.proofs.view.View.erase_open.Goals.{then-is_open, else-is_open}

pub loop-k-preserved : goal.loop-k-preserved
loop-k-preserved g c =
    let v = (shown c.args.self.now).grid in
    let here = (shown c.loop-k.self).grid in
    let p = c.args.self.now.cursor in
    let k = c.loop-k.k in
    let cell = get_or here.cells k blank in
    let i = c.loop-k.invariant in
    elim c.if-is_open.branch [
      | then-is_open w ↦ rw w.self-is (record {
        beside = cc (w.write.ensures.rest, i.beside);
        cursor = i.cursor;
        grid = w.write.ensures.grid ∙ erase_open_more v here p c.args.end k (omega arith) (omega arith) (omega arith) (not-true cell.protected (sym c.is_open.ensures ∙ w.if-is_open.true)) i.grid;
      })
      | else-is_open w ↦ rw w.self-is (record {
        beside = i.beside;
        cursor = i.cursor;
        grid = erase_open_keeps v here p c.args.end k (omega arith) (omega arith) (omega arith) (not-false cell.protected (sym c.is_open.ensures ∙ w.if-is_open.false)) i.grid;
      })
    ]
