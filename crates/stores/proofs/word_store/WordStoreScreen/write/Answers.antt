use Rattle.std.proofs.Common.{arith}
use Rattle.stores.specs.Words.{length_cells_in}
use Rattle.stores.proofs.Words.{word_cell, set_cells_in}
use Rattle.stores.proofs.word_store.WordStoreScreen.write.Goals as goal

pub returns-clause-grid : goal.returns-clause-grid
returns-clause-grid c =
    let written = word_cell c.args.code c.args.mark (omega arith) in
    grind (arith, length_cells_in, set_cells_in)
