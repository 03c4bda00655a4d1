-- A host text, one step on.
use Rattle.std.proofs.Common.{◌≡◌, ℕ, ◌%◌, ◌<◌, Bool, cond, ◌||◌, eqb, List, [], ◌∷◌, Some, None, Option, sym, refl, ap, ◌∙◌, subst, mod-eq_of_lt, arith}
use native.Mathlib.Nat.{mod-mod}
use Rattle.std.proofs.lemmas.Bool.{cond_both}
use Rattle.std.proofs.lemmas.Nat.{mod_below}
use Rattle.codes.specs.Ascii.{HT, CR, FS, GS, RS}
use Rattle.screen.specs.Grid.{Grid, Sound}
use Rattle.text.specs.Steps.{Step, run, address, escape, control, broken}
use Rattle.edit.specs.declared.edits.Motion.TheVariants.{Return, Tab}
use Rattle.edit.specs.declared.edits.Edit.{Edit}
use Rattle.edit.specs.declared.edits.Edit.TheVariants.{Move}
use Rattle.edit.specs.View.{View, view, size, at}
use Rattle.edit.specs.Edits.{of_letter, edited}
use Rattle.edit.specs.Writing.{typed, typed_run}
use Rattle.edit.specs.Laws.{OnScreen}
use Rattle.edit.proofs.Sizes.{size_least}
use Rattle.edit.proofs.Keeps.{edited_on, addressed_on, typed_on}
use Rattle.host.specs.declared.effect.Effect.{Effect}
use Rattle.host.specs.declared.effect.Effect.TheVariants.{Lock, Light, Transmit}
use Rattle.host.specs.Laws.{is_transmission, steps_before, first_transmission}
use Rattle.host.specs.Drawing.{effect, protects, edited_by, drawn, drawn_all}
use Rattle.host.specs.Carrying.{took, taking}
use Rattle.std.specs.Option.{option_or}

-- the cursor stays on the screen
pub at_on : (g : Grid) (p : ℕ) → Sound g → OnScreen (at g p)
at_on g p s = record { sound = s; on = mod_below p (size g) (omega (arith, size_least g s)) }

run_on : (m : Bool) (cs : List ℕ) (v : View) → OnScreen v → OnScreen (typed_run m cs v)
run_on m [] v k = k
run_on m (c ∷ cs) v k = run_on m cs (typed m v c) (typed_on m v c k)

letter_on : (o : Option Edit) (v : View) → OnScreen v → OnScreen (edited_by o v)
letter_on None v k = k
letter_on (Some e) v k = edited_on e v k

pub drawn_on : (m : Bool) (s : Step) (v : View) → OnScreen v → OnScreen (drawn m s v)
drawn_on m (run cs p) v k = run_on m cs v k
drawn_on m (address y x) v k = addressed_on y x v k
drawn_on m (escape c) v k = cond_both (eqb c HT) (typed m v HT) (edited_by (of_letter c) v) OnScreen (λ _. typed_on m v HT k) (λ _. letter_on (of_letter c) v k)
drawn_on m (control c) v k =
    cond_both (eqb c FS || (eqb c GS || eqb c RS)) (typed m v c) _ OnScreen (λ _. typed_on m v c k)
    (λ _. cond_both (eqb c CR) (edited (Move Return) v) _ OnScreen (λ _. edited_on (Move Return) v k)
    (λ _. cond_both (eqb c HT) (edited (Move Tab) v) v OnScreen (λ _. edited_on (Move Tab) v k) (λ _. k)))
drawn_on m broken v k = k

pub drawn_all_on : (m : Bool) (ss : List Step) (v : View) → OnScreen v → OnScreen (drawn_all m ss v)
drawn_all_on m [] v k = k
drawn_all_on m (s ∷ ss) v k = drawn_all_on (protects m s) ss (drawn m s v) (drawn_on m s v k)

-- a cursor that is on the screen is its own place
pub at_view : (g : Grid) (p : ℕ) → p < size g → at g p ≡ view g p
at_view g p l = ap (view g) (mod-eq_of_lt l)

-- what is drawn of one step
pub drawn_step : (g h : Grid) (p q : ℕ) (m : Bool) (s : Step) → Sound g → view h q ≡ drawn m s (at g p) → (q < size h) × (at h q ≡ drawn m s (at g p))
drawn_step g h p q m s ok e =
    let on : q < size h = (subst OnScreen (sym e) (drawn_on m s (at g p) (at_on g p ok))).on in
    (on, at_view h q on ∙ e)

-- the first of three texts
pub option_or_assoc : (a b c : Option (List ℕ)) → option_or (option_or a b) c ≡ option_or a (option_or b c)
option_or_assoc None b c = refl
option_or_assoc (Some t) b c = refl

pub option_or_none : (a : Option (List ℕ)) → option_or a None ≡ a
option_or_none None = refl
option_or_none (Some t) = refl

-- a place going round goes round no further
pub at_again : (g : Grid) (p q : ℕ) → q ≡ p % size g → at g q ≡ at g p
at_again g p q e = ap (λ k. view g (k % size g)) e ∙ ap (view g) (mod-mod p (size g))

-- a text's transmission, by its first step: before it the steps go on, with it the text is taken
taken_by : (m : Bool) (s : Step) (ss : List Step) (v : View) (rest : Option (List ℕ)) → rest ≡ took (first_transmission ss) (drawn_all (protects m s) (steps_before ss) (drawn m s v))
    → (e : Option Effect) → option_or (took e v) rest ≡ took (cond (is_transmission e) e (first_transmission ss)) (drawn_all m (cond (is_transmission e) [] (s ∷ steps_before ss)) v)
taken_by m s ss v rest h None = h
taken_by m s ss v rest h (Some Lock) = h
taken_by m s ss v rest h (Some Light) = h
taken_by m s ss v rest h (Some (Transmit k)) = refl

pub taken_before : (m : Bool) (ss : List Step) (v : View) → taking m ss v ≡ took (first_transmission ss) (drawn_all m (steps_before ss) v)
taken_before m [] v = refl
taken_before m (s ∷ ss) v = taken_by m s ss v (taking (protects m s) ss (drawn m s v)) (taken_before (protects m s) ss (drawn m s v)) (effect s)
