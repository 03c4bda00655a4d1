-- What every host text keeps, and where its transmission comes from.
use Rattle.std.specs.Prelude.{◌≡◌, Bool, true, false, cond, List, [], ◌∷◌, Some, None, Option}
use Rattle.text.specs.Steps.{Step}
use Rattle.edit.specs.View.{View}
use Rattle.edit.specs.Laws.{OnScreen}
use Rattle.host.specs.declared.effect.Effect.{Effect}
use Rattle.host.specs.declared.effect.Effect.TheVariants.{Lock, Light, Transmit}
use Rattle.host.specs.Drawing.{effect, drawn_all}
use Rattle.host.specs.Carrying.{took, taking}

-- steps leave a screen with the cursor on it
abbrev pub StepsStayOnScreen : Type 0
StepsStayOnScreen = (m : Bool) (ss : List Step) (v : View) → OnScreen v → OnScreen (drawn_all m ss v)

abbrev pub is_transmission : Option Effect → Bool
is_transmission None = false
is_transmission (Some Lock) = false
is_transmission (Some Light) = false
is_transmission (Some (Transmit k)) = true

-- the steps before the first transmission, and that one
abbrev pub steps_before : List Step → List Step
steps_before [] = []
steps_before (s ∷ ss) = cond (is_transmission (effect s)) [] (s ∷ steps_before ss)

abbrev pub first_transmission : List Step → Option Effect
first_transmission [] = None
first_transmission (s ∷ ss) = cond (is_transmission (effect s)) (effect s) (first_transmission ss)

-- a text takes up what its first transmission takes from the cells and the cursor that the steps before it leave
abbrev pub TakenFromStepsBefore : Type 0
TakenFromStepsBefore = (m : Bool) (ss : List Step) (v : View) → taking m ss v ≡ took (first_transmission ss) (drawn_all m (steps_before ss) v)
