-- What an answer tells of the test behind it.
use Rattle.std.proofs.Common.{◌≡◌, ℕ, ◌<◌, Bool, true, false, ltb, Ok, Err, Result, refl, arith}
use Rattle.std.proofs.lemmas.Bool.{ltb-true}
use Rattle.screen.specs.declared.refusal.Refusal.{Refusal}
use Rattle.screen.specs.declared.refusal.Refusal.TheVariants.{OffScreen}
use Rattle.screen.specs.Answers.{on_screen, done_if}

pub on_ok : {A : Type 0} (b : Bool) (x y : A) → ◌≡◌ {A = Result A Refusal} (Ok y) (on_screen b x) → (b ≡ true) × (y ≡ x)
on_ok true x y h = (refl, cc)
on_ok false x y h = let z : ◌≡◌ {A = ℕ} 0 1 = cc in absurd (omega arith)

pub on_err : {A : Type 0} (b : Bool) (x : A) (e : Refusal) → ◌≡◌ {A = Result A Refusal} (Err e) (on_screen b x) → (b ≡ false) × (e ≡ OffScreen)
on_err true x e h = let z : ◌≡◌ {A = ℕ} 0 1 = cc in absurd (omega arith)
on_err false x e h = (refl, cc)

-- a number that was tested
pub below : (a b : ℕ) (y : Unit {0}) → Ok y ≡ done_if (ltb a b) → a < b
below a b y h = ltb-true a b (on_ok (ltb a b) tt y h).0
