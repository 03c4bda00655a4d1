use Rattle.std.proofs.Common.{◌-◌, ◌*◌, ◌<◌, refl, ap, ◌∙◌, arith}
use Rattle.screen.specs.Grid.{Grid}
use Rattle.screen.specs.Answers.{done_if}
use Rattle.screen.proofs.Grids.{rows_fit, rows_on, lift_none, lift_more, lift_all}
use Rattle.screen.proofs.interface.Screen.remove_row.Goals as goal

pub loop-to-init : goal.loop-to-init
loop-to-init g c = (refl, lift_none (g.Self.Screen.grid c.args.self.now) (c.args.row * c.columns-columns.result) c.columns-columns.result)

pub loop-to-preserved : goal.loop-to-preserved
loop-to-preserved g c =
    let s = c.args.self.now in
    let G = g.Self.Screen.grid s in
    let w = c.columns-columns.result in
    let fits = rows_fit G c.args.row c.rows-rows.result w (g.Self.Screen.sound s) c.if-row-rows.false c.rows-rows.ensures c.columns-columns.ensures in (
      c.copy_cell.ensures.rest ∙ c.loop-to.invariant.0,
      c.copy_cell.ensures.grid ∙ lift_more G _ (c.args.row * w) w c.loop-to.to (omega arith) (omega arith) c.loop-to.invariant.1,
    )

pub returns : goal.returns
returns g c =
    let s = c.args.self.now in
    let G = g.Self.Screen.grid s in
    let l : c.args.row < G.rows = omega (arith, c.rows-rows.ensures) in
    let fits = rows_fit G c.args.row c.rows-rows.result c.columns-columns.result (g.Self.Screen.sound s) c.if-row-rows.false c.rows-rows.ensures c.columns-columns.ensures in
    record {
      rest = c.clear_row.ensures.rest ∙ c.loop-to.invariant.0;
      answer = c.clear_row.ensures.answer ∙ ap done_if (rows_on G _ (c.rows-rows.result - 1) c.args.row (ap (λ (x : Grid). x.rows) c.loop-to.invariant.1) (omega (arith, c.rows-rows.ensures)) l);
      grid = c.clear_row.ensures.grid
          ∙ lift_all G _ c.args.row c.rows-rows.result c.columns-columns.result c.loop-to.to (g.Self.Screen.sound s) c.if-row-rows.false c.rows-rows.ensures c.columns-columns.ensures (omega arith) c.loop-to.invariant.1;
    }
