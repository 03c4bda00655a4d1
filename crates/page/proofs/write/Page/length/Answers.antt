use Rattle.std.proofs.Common.{◌+◌, refl, sym, ◌∙◌, arith}
use Rattle.page.specs.Pages.{page_numbers}
use Rattle.page.specs.Calls.{page_at}
use Rattle.page.proofs.Writing.{header_at, cell_at, longer}
use Rattle.page.proofs.write.Page.length.Goals as goal

pub loop-n-preserved : goal.loop-n-preserved
loop-n-preserved g c =
    let p = page_at (g.S.Screen.grid c.args.self.now.screen.now) c.args.self.now.cursor in
    let here = header_at p c.header-n-items.result c.loop-n.n-index c.header-n-items.ensures.numbers (omega arith) in
    let long = longer (page_numbers p) c.loop-n.n-index _ here.0 here.1 _ refl in
    (omega arith, omega arith)

pub loop-place-preserved : goal.loop-place-preserved
loop-place-preserved g c =
    let p = page_at (g.S.Screen.grid c.args.self.now.screen.now) c.args.self.now.cursor in
    let there = cell_at p c.loop-place.place (omega arith) in
    let long = longer (page_numbers p) (4 + c.loop-place.place) c.cell.result there.0 (c.cell.ensures.number ∙ sym there.1) (4 + (c.loop-place.place + 1)) (omega arith) in
    (omega arith, omega arith)
