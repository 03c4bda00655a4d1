use Rattle.std.proofs.Common.{◌≡◌, ◌+◌, ◌*◌, ◌≤◌, length}
use Rattle.page.specs.Pages.{page_numbers}
use Rattle.page.specs.Calls.{page_at}
use Rattle.page.proofs.Writing.{first}
use Rattle.page.proofs.write.Page.length.Given as goal

abbrev pub invariant-loop-n : goal.invariant-loop-n
invariant-loop-n g l =
    (l.length ≡ length (first (page_numbers (page_at (g.S.Screen.grid l.self.screen.now) l.self.cursor)) l.n-index)) × (l.length ≤ 2 * l.n-index)

abbrev pub invariant-loop-place : goal.invariant-loop-place
invariant-loop-place g l =
    (l.length ≡ length (first (page_numbers (page_at (g.S.Screen.grid l.self.screen.now) l.self.cursor)) (4 + l.place))) × (l.length ≤ 2 * (4 + l.place))
