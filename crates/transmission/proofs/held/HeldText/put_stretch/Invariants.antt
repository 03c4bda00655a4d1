use Rattle.std.proofs.Common.{◌≡◌, ◌+◌, ◌*◌, ◌/◌, ◌≤◌}
use Rattle.edit.specs.View.{view}
use Rattle.transmission.specs.Text.{stretch}
use Rattle.transmission.specs.Held.{sent_of}
use Rattle.transmission.proofs.held.HeldText.put_stretch.Given as goal

abbrev pub invariant-loop-row : goal.invariant-loop-row
invariant-loop-row g l =
    let v = view (g.S.Screen.grid l.screen) l.cursor in
    record {
      before : l.from ≤ l.cursor;
      row : l.from / l.columns + 1 ≡ l.row;
      len : l.self.len + 3 * l.first ≤ 5 + 3 * l.from;
      sent : stretch l.kind v l.from (sent_of l.self) ≡ stretch l.kind v l.first (sent_of l.initial.self);
    }
