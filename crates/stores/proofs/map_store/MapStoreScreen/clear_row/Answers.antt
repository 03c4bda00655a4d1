use Rattle.std.proofs.Common.{rules}
use Rattle.screen.specs.Grid.{cleared}
use Rattle.screen.proofs.Answers.{below}
use Rattle.stores.specs.Maps.{map_grid}
use Rattle.stores.proofs.Maps.{Moved, cleared_map}
use Rattle.stores.proofs.map_store.MapStoreScreen.clear_row.Goals as goal
use Rattle.stores.proofs.map_store.MapStoreScreen.clear_row.Goals.{After-clear-2}

moved : (c : After-clear-2) → let s = c.args.self.now in Moved s.size.rows s.size.columns c.clear.new.self.0 c.clear-2.new.self.0 (cleared (map_grid s.size.rows s.size.columns s.chars s.marks) c.args.row)
moved c =
    let s = c.args.self.now in
    cleared_map s.size.rows s.size.columns c.args.row s.chars s.marks _ _ s.size.allowed (below c.args.row s.size.rows _ c.in_ok-check_row.ensures) (search rules) (search rules) s.held
    (cc (c.clear.ensures, c.new.ensures.items, c.new.ensures.rows, c.new.ensures.width, c.new.ensures.filler))
    (cc (c.clear-2.ensures, c.new-2.ensures.items, c.new-2.ensures.rows, c.new-2.ensures.width, c.new-2.ensures.filler))

pub invariant_of-self : goal.invariant_of-self
invariant_of-self c = record { held = (moved (goal.at.invariant_of-self c).After-clear-2).held }

pub returns-clause-grid : goal.returns-clause-grid
returns-clause-grid c = (moved (goal.at.returns-clause-grid c).After-clear-2).grid
