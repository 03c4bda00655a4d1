use Rattle.std.proofs.Common.{◌≡◌, ◌+◌, ◌-◌, true, false, take, drop, ap, ◌∙◌, arith, rules}
use Rattle.std.specs.List.{prefix_len}
use Rattle.std.proofs.lemmas.Iterator.{first_from_Range}
use Rattle.edit.specs.Shown.{shown}
use Rattle.edit.specs.Parts.{is_open, room}
use Rattle.edit.proofs.Runs.{Tests, FirstNot, first_not}
use Rattle.edit.proofs.view.View.run_end.Goals as goal

pub returns-clause-value : goal.returns-clause-value
returns-clause-value g c =
    let v = shown c.args.self.now in
    let cs = v.grid.cells in
    let end = c.room_end-end.result in
    let r = c.find.result in
    let found : FirstNot is_open cs v.cursor end r =
    first_from_Range _ _ _ r (Tests is_open cs false) (Tests is_open cs true) c.find.ensures.ran (λ x q k. search rules) (λ x q k. search rules) in
    let n : end - v.cursor ≡ room c.args.reach v = omega (arith, c.room_end-end.ensures.value) in
    c.unwrap_or.ensures ∙ first_not is_open cs v.cursor end r (omega arith) (omega arith) found ∙ ap (λ k. v.cursor + prefix_len is_open (take k (drop v.cursor cs))) n
