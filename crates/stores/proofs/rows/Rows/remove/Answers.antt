use Rattle.stores.proofs.Front.{removed_front}
use Rattle.stores.proofs.rows.Rows.remove.Goals as goal

pub returns : goal.returns
returns c =
    let s = c.args.self in
    removed_front s.filler s.items.now c.copy_within.new.self c.fill.new.self c.args.row s.rows s.width c.requires s.room c.copy_within.ensures.after (c.fill.ensures.after (λ y e. e))
