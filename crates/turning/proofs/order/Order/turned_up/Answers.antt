use Rattle.std.proofs.Common.{refl, arith}
use Rattle.turning.proofs.Turns.{rotated_up}
use Rattle.turning.proofs.order.Order.turned_up.Goals as goal

pub returns-clause-moved : goal.returns-clause-moved
returns-clause-moved c =
    let s = c.args.self in
    rotated_up s.at c.rotate_left.new.self c.args.row s.rows 1 refl c.requires.0 (omega arith) c.rotate_left.ensures.after
