use Rattle.std.proofs.Common.{◌*◌, ◌<◌, refl, ◌∙◌, arith}
use Rattle.screen.proofs.Grids.{row_fits, row_done, clear_none, clear_more, clear_all}
use Rattle.screen.proofs.interface.Screen.clear_row.Goals as goal

pub loop-place-init : goal.loop-place-init
loop-place-init g c = (refl, clear_none (g.Self.Screen.grid c.args.self.now) (c.args.row * c.columns-columns.result))

pub loop-place-preserved : goal.loop-place-preserved
loop-place-preserved g c =
    let s = c.args.self.now in
    let G = g.Self.Screen.grid s in
    let w = c.columns-columns.result in
    let fits = row_fits G c.args.row w (g.Self.Screen.sound s) c.columns-columns.ensures (omega (arith, c.rows.ensures)) in
    (c.write.ensures.rest ∙ c.loop-place.invariant.0, c.write.ensures.grid ∙ clear_more G _ (c.args.row * w) c.loop-place.place (omega arith) (omega arith) c.loop-place.invariant.1)

pub returns : goal.returns
returns g c =
    let G = g.Self.Screen.grid c.args.self.now in
    let l : c.args.row < G.rows = omega (arith, c.rows.ensures) in
    record {
      rest = c.loop-place.invariant.0;
      answer = row_done G c.args.row l;
      grid = clear_all G _ c.args.row c.columns-columns.result c.loop-place.place l c.columns-columns.ensures (omega arith) c.loop-place.invariant.1;
    }
