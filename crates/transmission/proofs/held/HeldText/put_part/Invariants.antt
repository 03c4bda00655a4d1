use Rattle.std.proofs.Common.{◌≡◌, ◌+◌, ◌-◌, ◌*◌, ◌≤◌}
use Rattle.std.specs.List.{between}
use Rattle.transmission.specs.Text.{sends}
use Rattle.transmission.specs.Held.{sent_of}
use Rattle.transmission.proofs.held.HeldText.put_part.Given as goal

abbrev pub invariant-loop-place : goal.invariant-loop-place
invariant-loop-place g l =
    let cells = (g.S.Screen.grid l.screen).cells in
    record {
      sent : sends l.kind (between l.place l.to cells) (sent_of l.self) ≡ sends l.kind (between l.from l.to cells) (sent_of l.initial.self);
      len : l.self.len ≤ l.initial.self.len + 3 * (l.place - l.from);
    }
