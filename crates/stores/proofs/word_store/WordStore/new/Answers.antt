use Rattle.std.proofs.Common.{◌*◌, ap}
use Rattle.stores.proofs.Words.{new_held, new_cells}
use Rattle.stores.proofs.word_store.WordStore.new.Goals as goal

pub invariant_of-result : goal.invariant_of-result
invariant_of-result c =
    let s = c.args.size in
    let held = new_held (s.rows * s.columns) c.args.area.now c.fill.new.self _ c.requires c.word_of.ensures (c.fill.ensures.after (λ y e. e)) in
    record { room = held.0; held = held.1 }

pub returns-clause-grid : goal.returns-clause-grid
returns-clause-grid c =
    let s = c.args.size in
    let cells = new_cells (s.rows * s.columns) c.args.area.now c.fill.new.self _ c.requires c.word_of.ensures (c.fill.ensures.after (λ y e. e)) in
    ap (λ cs. record { rows = s.rows; columns = s.columns; cells = cs }) cells
