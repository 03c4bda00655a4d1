use Rattle.std.proofs.Common.{◌≡◌, ◌-◌}
use Rattle.page.specs.Pages.{cells_in}
use Rattle.page.specs.Walk.{rest_of, end_of}
use Rattle.page.proofs.reader.Reader.skip_cells.Given as goal

abbrev pub invariant-loop : goal.invariant-loop
invariant-loop l = end_of (cells_in l.count (rest_of l.initial.self)) ≡ end_of (cells_in (l.count - l.counter) (rest_of l.self))
