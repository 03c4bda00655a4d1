use Rattle.std.proofs.Common.{◌*◌, ◌<◌, sym, ap, ◌∙◌, arith}
use Rattle.edit.specs.View.{view}
use Rattle.transmission.specs.Text.{stretch}
use Rattle.transmission.specs.Held.{sent_of}
use Rattle.transmission.proofs.Parts.{row_after, row_before, row_next, stretch_row}
use Rattle.transmission.proofs.held.HeldText.put_stretch.Goals as goal

pub loop-row-preserved : goal.loop-row-preserved
loop-row-preserved g c =
    let s = c.args.screen.now in
    let v = view (g.S.Screen.grid s) c.args.cursor in
    let w = c.columns-columns.result in
    let r = c.loop-row.row in
    let one : 0 < w = omega (arith, (g.S.Screen.sound s).column_least) in
    let after = row_after w c.loop-row.from r one c.loop-row.invariant.row in
    let before = row_before w c.args.cursor r one (omega arith) in
    record {
      before = before;
      row = omega (arith, row_next w r one);
      len = omega (arith, c.put_row.ensures.len);
      sent = ap (stretch c.args.kind v (r * w)) c.put_row.ensures.sent
          ∙ sym (stretch_row c.args.kind v w c.loop-row.from r (sent_of c.loop-row.self) c.columns-columns.ensures one c.loop-row.invariant.row (omega arith))
          ∙ c.loop-row.invariant.sent;
    }
