use Rattle.std.proofs.Common.{◌≡◌, ◌-◌, ◌∷◌, get_or, ap, ◌∙◌, arith}
use Rattle.std.specs.List.{between}
use Rattle.screen.specs.Cells.{blank}
use Rattle.screen.proofs.Cells.{space_storable}
use Rattle.edit.specs.Shown.{shown}
use Rattle.edit.specs.Parts.{pushed}
use Rattle.edit.proofs.PartsDrawn.{insert_more, insert_next}
use Rattle.edit.proofs.Drawing.{drawing_none}
use Rattle.edit.proofs.view.View.insert.Goals as goal

pub loop-k-init : goal.loop-k-init
loop-k-init g c =
    let s = c.args.self.now in
    let first : 0 ≡ s.cursor - s.cursor = omega arith in
    (drawing_none pushed s c.args.end, ap (λ k. get_or (blank ∷ between s.cursor c.args.end (shown s).grid.cells) k blank) first, space_storable)

pub loop-k-preserved : goal.loop-k-preserved
loop-k-preserved g c =
    let v = (shown c.args.self.now).grid in
    let here = (shown c.loop-k.self).grid in
    let p = c.args.self.now.cursor in
    let k = c.loop-k.k in
    let e = c.write.ensures in
    let i = c.loop-k.invariant in (
      record {
        beside = cc (e.rest, i.0.beside);
        cursor = i.0.cursor;
        grid = e.grid ∙ insert_more v here p c.args.end k (omega arith) (omega arith) (omega arith) c.loop-k.before.0 c.loop-k.before.1 i.2 i.1 i.0.grid;
      },
      c.cell_at-here.ensures.value ∙ insert_next v here p c.args.end k (omega arith) (omega arith) (omega arith) i.0.grid,
      c.cell_at-here.ensures.stored,
    )
