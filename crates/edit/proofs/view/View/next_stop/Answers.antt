use Rattle.std.proofs.Common.{◌≡◌, false, true, not, get_or, Some, None, sym, ap, ◌∙◌, ⊎_elim, arith}
use Rattle.std.proofs.lemmas.Bool.{cases_lt, eq-eqb, ne_eqb}
use Rattle.codes.specs.Ascii.{HT}
use Rattle.screen.specs.Cells.{blank}
use Rattle.edit.specs.Moves.{no_stop}
use Rattle.edit.proofs.Runs.{first_not_if}
use Rattle.edit.proofs.view.View.next_stop.Goals as goal

pub loop-place-preserved : goal.loop-place-preserved
loop-place-preserved g c =
    let cs = (g.S.Screen.grid c.args.self.now.screen.now).cells in
    let place = c.loop-place.place in
    let no : no_stop (get_or cs place blank) ≡ true = sym (ap no_stop c.cell_at.ensures.value) ∙ ap not (ne_eqb c.cell_at.result.0 HT c.if-cell_at-eq-HT.false) in
    λ k a b. ⊎_elim (c.loop-place.invariant k a) (λ l. ap (λ n. no_stop (get_or cs n blank)) {x = k} {y = place} (omega arith) ∙ no) (cases_lt k place)

pub returns-then-cell_at-eq-HT-clause-stop : goal.returns-then-cell_at-eq-HT-clause-stop
returns-then-cell_at-eq-HT-clause-stop g c =
    let v = c.args.self.now in
    let cs = (g.S.Screen.grid v.screen.now).cells in
    let place = c.loop-place.place in
    let stop : no_stop (get_or cs place blank) ≡ false = sym (ap no_stop c.cell_at.ensures.value) ∙ ap not (eq-eqb c.cell_at.result.0 HT c.if-cell_at-eq-HT.true) in
    first_not_if no_stop cs v.cursor c.cell_count-place-end.result (Some place) (omega arith) (omega arith) (omega arith, omega arith, stop, c.loop-place.invariant)

pub returns-clause-stop : goal.returns-clause-stop
returns-clause-stop g c =
    let v = c.args.self.now in
    let cs = (g.S.Screen.grid v.screen.now).cells in
    first_not_if no_stop cs v.cursor c.cell_count-place-end.result None (omega arith) (omega arith) (λ k a b. c.loop-place.invariant k a (omega arith))
