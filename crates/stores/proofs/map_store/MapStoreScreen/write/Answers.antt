use Rattle.std.proofs.Common.{◌*◌, ◌<◌, arith, rules}
use Rattle.screen.specs.View.{length_table}
use Rattle.stores.proofs.Maps.{set_cells}
use Rattle.stores.proofs.map_store.MapStoreScreen.write.Goals as goal

pub returns-clause-grid : goal.returns-clause-grid
returns-clause-grid c =
    let s = c.args.self.now in
    let p = c.args.place in
    let on : p < s.size.rows * s.size.columns = grind (arith) in
    let written = set_cells (s.size.rows * s.size.columns) s.chars s.marks p c.args.code c.with_mark-byte.result c.args.mark on (search rules) (search rules) c.with_mark-byte.ensures in
    grind (arith, written, length_table)
