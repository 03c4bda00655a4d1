use Rattle.std.proofs.Common.{arith}
use Rattle.turning.proofs.Turns.{rotated_down}
use Rattle.turning.proofs.order.Order.turned_down.Goals as goal

pub returns-clause-moved : goal.returns-clause-moved
returns-clause-moved c =
    let s = c.args.self in
    rotated_down s.at c.rotate_right.new.self c.args.row s.rows c.requires.0 (omega arith) c.rotate_right.ensures.after
