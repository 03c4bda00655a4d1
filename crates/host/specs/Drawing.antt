-- What each step of a host text does.
use Rattle.std.specs.Prelude.{ℕ, Bool, true, false, cond, ◌||◌, List, [], ◌∷◌, Some, None, Option, ◌==◌}
use Rattle.codes.specs.Ascii.{BEL, HT, CR, SO, SI, DC1, DC4, FS, GS, RS}
use Rattle.text.specs.Steps.{Step, run, address, escape, control, broken}
use Rattle.edit.specs.declared.edits.Motion.TheVariants.{Return, Tab}
use Rattle.edit.specs.declared.edits.Edit.{Edit}
use Rattle.edit.specs.declared.edits.Edit.TheVariants.{Move}
use Rattle.edit.specs.View.{View}
use Rattle.edit.specs.Moves.{addressed}
use Rattle.edit.specs.Edits.{of_letter, edited}
use Rattle.edit.specs.Writing.{typed, typed_run}
use Rattle.transmission.specs.declared.kind.Kind.TheVariants.{Open, Display}
use Rattle.host.specs.declared.effect.Effect.{Effect}
use Rattle.host.specs.declared.effect.Effect.TheVariants.{Lock, Light, Transmit}

-- DC1 and ESC DC1 are transmissions, DC4 and ESC DC4 lock codes, BEL puts the light on
abbrev pub effect : Step → Option Effect
effect (run cs p) = None
effect (address y x) = None
effect (escape c) = cond (c == DC1) (Some (Transmit Display)) (cond (c == DC4) (Some Lock) None)
effect (control c) = cond (c == DC1) (Some (Transmit Open)) (cond (c == DC4) (Some Lock) (cond (c == BEL) (Some Light) None))
effect broken = None

-- SO protects what is written after it, SI opens
abbrev pub protects : Bool → Step → Bool
protects m (run cs p) = m
protects m (address y x) = m
protects m (escape c) = m
protects m (control c) = cond (c == SO) true (cond (c == SI) false m)
protects m broken = m

-- a letter without a rule does nothing
abbrev pub edited_by : Option Edit → View → View
edited_by None v = v
edited_by (Some e) v = edited e v

-- ESC HT writes a tab stop; the letters are edits
abbrev pub escape_drawn : Bool → ℕ → View → View
escape_drawn m c v = cond (c == HT) (typed m v HT) (edited_by (of_letter c) v)

-- FS, GS and RS are written; CR and HT move; every other code does nothing
abbrev pub control_drawn : Bool → ℕ → View → View
control_drawn m c v =
    cond (c == FS || (c == GS || c == RS)) (typed m v c)
    (cond (c == CR) (edited (Move Return) v)
    (cond (c == HT) (edited (Move Tab) v) v))

-- the cells and the cursor after a step, where m says whether what it writes is protected
abbrev pub drawn : Bool → Step → View → View
drawn m (run cs p) v = typed_run m cs v
drawn m (address y x) v = addressed y x v
drawn m (escape c) v = escape_drawn m c v
drawn m (control c) v = control_drawn m c v
drawn m broken v = v

-- the cells and the cursor after some steps
abbrev pub drawn_all : Bool → List Step → View → View
drawn_all m [] v = v
drawn_all m (s ∷ ss) v = drawn_all (protects m s) ss (drawn m s v)
