use Rattle.stores.proofs.Front.{inserted_front}
use Rattle.stores.proofs.rows.Rows.insert.Goals as goal

pub returns : goal.returns
returns c =
    let s = c.args.self in
    inserted_front s.filler s.items.now c.copy_within.new.self c.fill.new.self c.args.row s.rows s.width c.requires s.room c.copy_within.ensures.after (c.fill.ensures.after (λ y e. e))
