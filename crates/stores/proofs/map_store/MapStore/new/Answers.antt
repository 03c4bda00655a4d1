use Rattle.std.proofs.Common.{◌*◌, ap}
use Rattle.stores.proofs.Maps.{cells_most, new_codes, new_cells}
use Rattle.stores.proofs.map_store.MapStore.new.Goals as goal

pub invariant_of-result : goal.invariant_of-result
invariant_of-result c =
    let s = c.args.size in
    record { held = new_codes (s.rows * s.columns) 1920 (cells_most s.rows s.columns s.allowed) }

pub returns : goal.returns
returns c =
    let s = c.args.size in
    let most = cells_most s.rows s.columns s.allowed in
    ap (λ cs. record { rows = s.rows; columns = s.columns; cells = cs }) (new_cells (s.rows * s.columns) 1920 240 most most)
