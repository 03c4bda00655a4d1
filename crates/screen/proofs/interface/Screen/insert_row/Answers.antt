use Rattle.std.proofs.Common.{◌-◌, ◌*◌, ◌<◌, refl, ap, ◌∙◌, arith}
use Rattle.screen.specs.Grid.{Grid}
use Rattle.screen.specs.Answers.{done_if}
use Rattle.screen.proofs.Grids.{rows_fit, rows_on, lower_none, lower_more, lower_all}
use Rattle.screen.proofs.interface.Screen.insert_row.Goals as goal

pub loop-from-init : goal.loop-from-init
loop-from-init g c =
    let s = c.args.self.now in
    let w = c.columns-columns.result in
    let fits = rows_fit (g.Self.Screen.grid s) c.args.row c.rows-rows.result w (g.Self.Screen.sound s) c.if-row-rows.false c.rows-rows.ensures c.columns-columns.ensures in
    (fits.0, refl, lower_none (g.Self.Screen.grid s) w ((c.rows-rows.result - 1) * w))

pub loop-from-preserved : goal.loop-from-preserved
loop-from-preserved g c =
    let s = c.args.self.now in
    let G = g.Self.Screen.grid s in
    let w = c.columns-columns.result in
    let fits = rows_fit G c.args.row c.rows-rows.result w (g.Self.Screen.sound s) c.if-row-rows.false c.rows-rows.ensures c.columns-columns.ensures in
    let some : 0 < w = omega (arith, c.columns-columns.ensures, (g.Self.Screen.sound s).column_least) in (
      omega arith,
      c.copy_cell.ensures.rest ∙ c.loop-from.invariant.1,
      c.copy_cell.ensures.grid ∙ lower_more G _ w ((c.rows-rows.result - 1) * w) c.loop-from.from (c.loop-from.from - 1) (omega arith) (omega arith) (omega arith) some c.loop-from.invariant.2,
    )

pub returns : goal.returns
returns g c =
    let s = c.args.self.now in
    let G = g.Self.Screen.grid s in
    let l : c.args.row < G.rows = omega (arith, c.rows-rows.ensures) in
    record {
      rest = c.clear_row.ensures.rest ∙ c.loop-from.invariant.1;
      answer = c.clear_row.ensures.answer ∙ ap done_if (rows_on G _ c.args.row c.args.row (ap (λ (x : Grid). x.rows) c.loop-from.invariant.2) l l);
      grid = c.clear_row.ensures.grid
          ∙ lower_all G _ c.args.row c.rows-rows.result c.columns-columns.result c.loop-from.from (g.Self.Screen.sound s) c.if-row-rows.false c.rows-rows.ensures c.columns-columns.ensures (omega arith) c.loop-from.invariant.2;
    }
