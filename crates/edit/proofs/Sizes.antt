-- How large a screen is, and places going round.
use Rattle.std.proofs.Common.{◌≡◌, ℕ, ◌+◌, ◌-◌, ◌*◌, ◌%◌, ◌<◌, ◌≤◌, Bool, Ok, List, length, set, refl, sym, ◌∙◌, mod-eq_of_lt, mul-le-mul, arith}
use Rattle.std.proofs.lemmas.Bool.Decides.{nat_tests}
use Rattle.std.proofs.lemmas.Bool.{cond_both}
use Rattle.std.proofs.lemmas.Nat.{rows}
use Rattle.std.proofs.lemmas.List.{length-set}
use Rattle.screen.specs.Cells.{Cell, cell}
use Rattle.screen.specs.Answers.{place_at}
use native.Mathlib.Nat.{mod-eq-sub-mod}
use Rattle.screen.specs.Grid.{Grid, Sound, writable, written}
use Rattle.edit.specs.View.{size}

pub size_least : (g : Grid) → Sound g → 2 ≤ size g
size_least g s = let m : 2 * 1 ≤ g.rows * g.columns = mul-le-mul s.row_least s.column_least in omega (arith, s.filled)

pub size_most : (g : Grid) → Sound g → size g ≤ 1920
size_most g s = let m : g.rows * g.columns ≤ 24 * 80 = mul-le-mul s.row_most s.column_most in omega (arith, s.filled)

pub size_written : (g : Grid) (p c : ℕ) (m : Bool) → size (written g p c m) ≡ size g
size_written g p c m =
    let P : List Cell → Type 0 = λ cs. length cs ≡ size g in
    cond_both (writable g p c) (set g.cells p (cell c m)) g.cells P (λ _. length-set g.cells p (cell c m)) (λ _. refl)

pub round_once : (p n : ℕ) → n ≤ p → p < n + n → p - n ≡ p % n
round_once p n h l = let b : p - n < n = omega arith in sym (mod-eq_of_lt b) ∙ sym (mod-eq-sub-mod h)

-- a place that a row and a column have is on the screen
pub placed_on : (g : Grid) (y x p : ℕ) → Sound g → Ok p ≡ place_at g y x → p < size g
placed_on g y x p s e = grind (arith, nat_tests, rows)
