use Rattle.std.proofs.Common.{◌∙◌, arith}
use Rattle.page.specs.Walk.{rest_of}
use Rattle.page.proofs.Drawing.{drawing_none, drawing_more, drawing_all}
use Rattle.page.proofs.read.draw.Goals as goal

pub loop-place-preserved : goal.loop-place-preserved
loop-place-preserved g c = (
  c.draw_cell.ensures.rest ∙ c.loop-place.invariant.0,
  λ cs d. drawing_more _ cs c.args.count _ c.loop-place.place _ (c.loop-place.invariant.1 cs d) c.loop-place-test.true _ _ c.draw_cell.ensures.cell,
)

pub returns : goal.returns
returns g c =
    let G = g.S.Screen.grid c.args.screen.now in
    record {
      rest = c.loop-place.invariant.0;
      grid = λ cs h e.
          drawing_all G cs c.args.count (rest_of c.loop-place.cells) c.loop-place.place _ (omega arith)
          (c.loop-place.invariant.1 cs (drawing_none G cs c.args.count (rest_of c.args.cells) h e));
    }
