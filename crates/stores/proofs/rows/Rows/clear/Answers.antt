use Rattle.stores.proofs.Front.{cleared_front}
use Rattle.stores.proofs.rows.Rows.clear.Goals as goal

pub returns : goal.returns
returns c =
    let s = c.args.self in
    cleared_front s.filler s.items.now c.fill.new.self c.args.row s.rows s.width c.requires s.room (c.fill.ensures.after (λ y e. e))
