use Rattle.std.proofs.Common.{◌≡◌, ◌<◌, ◌||◌}
use Rattle.std.specs.Option.{option_or}
use Rattle.text.specs.Steps.{steps_of}
use Rattle.text.specs.Shown.{unread}
use Rattle.edit.specs.View.{size, at}
use Rattle.host.specs.Drawing.{drawn_all}
use Rattle.host.specs.Carrying.{is_lock, is_light, some_step, taking, held_of}
use Rattle.host.proofs.carry.carry_steps.Given as goal

-- what is unread does to what stands now as the whole text to what stood at first
abbrev pub invariant-loop-step : goal.invariant-loop-step
invariant-loop-step g l =
    let left = unread l.step-iterator in
    let whole = steps_of l.text in
    let now = at (g.S.Screen.grid l.screen) l.state.cursor in
    let first = at (g.S.Screen.grid l.initial.screen) l.initial.state.cursor in
    record {
      rest : g.S.Screen.rest l.screen ≡ g.S.Screen.rest l.initial.screen;
      on : l.state.cursor < size (g.S.Screen.grid l.screen);
      view : drawn_all l.mark left now ≡ drawn_all l.protected whole first;
      locked : (l.state.locked || some_step is_lock left) ≡ (l.initial.state.locked || some_step is_lock whole);
      light : (l.state.light || some_step is_light left) ≡ (l.initial.state.light || some_step is_light whole);
      held : option_or (held_of l.state) (taking l.mark left now) ≡ option_or (held_of l.initial.state) (taking l.protected whole first);
    }
