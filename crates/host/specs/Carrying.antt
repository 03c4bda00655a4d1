-- What a whole host text does to lock, light and held text.
use Rattle.std.specs.Prelude.{ℕ, Bool, true, false, ◌||◌, List, [], ◌∷◌, Some, None, Option, option_map}
use Rattle.std.specs.Option.{option_or}
use Rattle.text.specs.Steps.{Step}
use Rattle.edit.specs.View.{View}
use Rattle.transmission.specs.Text.{taken}
use Rattle.transmission.specs.Held.{text_of}
use Rattle.host.specs.declared.effect.Effect.{Effect}
use Rattle.host.specs.declared.effect.Effect.TheVariants.{Lock, Light, Transmit}
use Rattle.host.specs.declared.state.State.{State}
use Rattle.host.specs.Drawing.{effect, protects, drawn}

abbrev pub is_lock : Option Effect → Bool
is_lock None = false
is_lock (Some Lock) = true
is_lock (Some Light) = false
is_lock (Some (Transmit k)) = false

abbrev pub is_light : Option Effect → Bool
is_light None = false
is_light (Some Lock) = false
is_light (Some Light) = true
is_light (Some (Transmit k)) = false

-- whether some step has such an effect
abbrev pub some_step : (Option Effect → Bool) → List Step → Bool
some_step test [] = false
some_step test (s ∷ ss) = test (effect s) || some_step test ss

-- the text that an effect takes up
abbrev pub took : Option Effect → View → Option (List ℕ)
took None v = None
took (Some Lock) v = None
took (Some Light) v = None
took (Some (Transmit k)) v = Some (taken k v)

-- the text of the first transmission among some steps, from the cells and the cursor that the steps before it leave
abbrev pub taking : Bool → List Step → View → Option (List ℕ)
taking m [] v = None
taking m (s ∷ ss) v = option_or (took (effect s) v) (taking (protects m s) ss (drawn m s v))

-- the text that is held, if any
abbrev pub held_of : State → Option (List ℕ)
held_of s = option_map text_of s.held
