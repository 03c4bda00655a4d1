use Rattle.std.proofs.Common.{◌+◌, refl, sym, ◌∙◌, arith}
use Rattle.page.specs.Pages.{page_numbers}
use Rattle.page.specs.Calls.{page_at}
use Rattle.page.proofs.Writing.{header_at, cell_at, fits, more}
use Rattle.page.proofs.write.Page.write.Goals as goal

pub loop-n-preserved : goal.loop-n-preserved
loop-n-preserved g c =
    let p = page_at (g.S.Screen.grid c.args.self.now.screen.now) c.args.self.now.cursor in
    let here = header_at p c.header-n-items.result c.loop-n.n-index c.header-n-items.ensures.numbers (omega arith) in
    more (page_numbers p) _ _ here.0 here.1 _ _ _ c.loop-n.invariant _ _ _ refl c.put_number-end.ensures.next c.put_number-end.ensures.area

pub put_number-end-requires-in-loop-place-clause-room : goal.put_number-end-requires-in-loop-place-clause-room
put_number-end-requires-in-loop-place-clause-room g c =
    let p = page_at (g.S.Screen.grid c.args.self.now.screen.now) c.args.self.now.cursor in
    let there = cell_at p c.loop-place.place (omega arith) in
    fits (page_numbers p) (4 + c.loop-place.place) _ there.0 (c.cell.ensures.number ∙ sym there.1) _ _ _ c.loop-place.invariant (omega arith)

pub loop-place-preserved : goal.loop-place-preserved
loop-place-preserved g c =
    let p = page_at (g.S.Screen.grid c.args.self.now.screen.now) c.args.self.now.cursor in
    let there = cell_at p c.loop-place.place (omega arith) in
    more (page_numbers p) (4 + c.loop-place.place) _ there.0 (c.cell.ensures.number ∙ sym there.1) _ _ _ c.loop-place.invariant _ _ _ (omega arith)
    c.put_number-end-in-loop-place.ensures.next c.put_number-end-in-loop-place.ensures.area
