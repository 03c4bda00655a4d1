use Rattle.std.proofs.Common.{false}
use Rattle.text.specs.Steps.{steps_of}
use Rattle.edit.specs.View.{at}
use Rattle.host.specs.Drawing.{drawn_all}
use Rattle.host.specs.Carrying.{held_of}
use Rattle.host.proofs.Steps.{at_on, drawn_all_on}
use Rattle.station.specs.Meaning.{console_of}
use Rattle.station.proofs.Views.{left_at}
use Rattle.terminal.proofs.Texts.{carried_parts}
use Rattle.terminal.proofs.obey.carry_text.Goals as goal

pub returns-clause-after : goal.returns-clause-after
returns-clause-after g c =
    let here = g.S.Screen.grid c.args.screen.now in
    let was = c.args.console.now in
    let ss = steps_of c.args.text.now in
    let v = at here was.host.cursor in
    let e = c.carry_out-taken_up.ensures in
    let there = g.S.Screen.grid c.carry_out-taken_up.new.screen in
    let left = c.carry_out-taken_up.new.state in
    let seen = left_at there left.cursor (drawn_all false ss v) (drawn_all_on false ss v (at_on here was.host.cursor (g.S.Screen.sound c.args.screen.now))) e.view in
    carried_parts ss (console_of was) v (at there left.cursor) left.locked left.light (held_of left) seen e.held e.locked e.light
