use Rattle.std.proofs.Common.{◌∙◌, ap, sym, rules}
use Rattle.text.specs.Shown.{shown, unread}
use Rattle.host.specs.Drawing.{drawn, drawn_all, protects}
use Rattle.edit.specs.View.{at}
use Rattle.std.proofs.Math.Bool.{or_assoc}
use Rattle.host.proofs.Steps.{drawn_step, option_or_assoc}
use Rattle.host.proofs.carry.carry_steps.Goals as goal

pub loop-step-preserved : goal.loop-step-preserved
loop-step-preserved g c =
    let here = g.S.Screen.grid c.loop-step.screen in
    let there = g.S.Screen.grid c.draw-state.new.screen in
    let v = at here c.loop-step.state.cursor in
    let p = c.loop-step.mark in
    let s = shown c.in-Some.step in
    let ss = unread c.next.new.self in
    let q = drawn_step here there c.note.new.self.cursor c.draw-state.result p s (g.S.Screen.sound c.loop-step.screen) c.draw-state.ensures.view in
    let after = q.1 ∙ ap (λ k. drawn p s (at here k)) c.note.ensures.cursor in
    record {
      rest = cc;
      on = q.0;
      view = ap (λ b. drawn_all b ss (at there c.draw-state.result)) c.protects-mark.ensures ∙ ap (drawn_all (protects p s) ss) after ∙ ap (λ x. drawn_all p x v) (sym c.in-Some.ensures.steps) ∙ c.loop-step.invariant.view;
      locked = search (rules, or_assoc);
      light = search (rules, or_assoc);
      held = search (rules, option_or_assoc);
    }
