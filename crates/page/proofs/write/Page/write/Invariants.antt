use Rattle.std.proofs.Common.{◌+◌}
use Rattle.page.specs.Pages.{page_numbers}
use Rattle.page.specs.Calls.{page_at}
use Rattle.page.proofs.Writing.{Written}
use Rattle.page.proofs.write.Page.write.Given as goal

abbrev pub invariant-loop-n : goal.invariant-loop-n
invariant-loop-n g l = Written (page_numbers (page_at (g.S.Screen.grid l.self.screen.now) l.self.cursor)) l.fn.area l.n-index l.end l.area

abbrev pub invariant-loop-place : goal.invariant-loop-place
invariant-loop-place g l = Written (page_numbers (page_at (g.S.Screen.grid l.self.screen.now) l.self.cursor)) l.fn.area (4 + l.place) l.end l.area
