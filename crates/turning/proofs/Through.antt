-- Places through the order.
use Rattle.std.proofs.Common.{◌≡◌, ℕ, ◌+◌, ◌*◌, ◌/◌, ◌%◌, ◌<◌, ltb, List, length, get_or, Ok, Result, sym, ap, ◌∙◌, subst, arith}
use Rattle.std.proofs.lemmas.Bool.{ltb-true, lt-ltb, and_from}
use Rattle.std.proofs.lemmas.Nat.{div_below, mod_below}
use Rattle.screen.specs.declared.refusal.Refusal.{Refusal}
use Rattle.screen.specs.Cells.{blank}
use Rattle.screen.specs.Grid.{Grid, Sound, has_place}
use Rattle.screen.specs.Answers.{on_screen, split_at, place_at}
use Rattle.screen.specs.View.{Into, length_table}
use Rattle.screen.proofs.Answers.{on_ok}
use Rattle.turning.specs.Order.{under, turned_by, Permutes, fitted, fitted_permutes, under_into}
use Rattle.turning.proofs.Turned.{Reads, reads_fitted}

-- as many cells are shown as there are below
pub length_turned : (at : List ℕ) (n : ℕ) (g : Grid) → Sound g → length (turned_by at n g).cells ≡ length g.cells
length_turned at n g s = length_table (g.rows * g.columns) (λ k. get_or g.cells (under (fitted at n g.rows) g.columns k) blank) ∙ sym s.filled

-- the place below of a place on the screen
pub place_through : (at o : List ℕ) (n q k : ℕ) (g : Grid) (p row column to : ℕ) → Permutes at n → Sound g → Reads at n q o k g
    → ◌≡◌ {A = Result (ℕ × ℕ) Refusal} (Ok (row, column)) (split_at g p) → to ≡ get_or o row 0
    → place_at g to column ≡ on_screen (has_place (turned_by at n g) p) (under (fitted at n g.rows) g.columns p)
unfolding under
place_through at o n q k g p row column to pm s m e t =
    let w = g.columns in
    let got = on_ok (has_place g p) (p / w, p % w) (row, column) e in
    let on : p < g.rows * w = omega (arith, ltb-true p (length g.cells) got.0, s.filled) in
    let er : row ≡ p / w = ap (λ (x : ℕ × ℕ). x.0) got.1 in
    let ec : column ≡ p % w = ap (λ (x : ℕ × ℕ). x.1) got.1 in
    let x = fitted at n g.rows in
    let tx : to ≡ get_or x (p / w) 0 = t ∙ ap (λ y. get_or y row 0) (reads_fitted at o n q k g m) ∙ ap (λ y. get_or x y 0) er in
    let low : to < g.rows = omega (arith, (fitted_permutes at n g.rows pm s.row_most).1 (p / w) (div_below p w g.rows s.column_least on)) in
    let thin : column < w = omega (arith, mod_below p w s.column_least) in
    let T = turned_by at n g in
    ap (λ b. on_screen b (to * w + column)) (and_from _ _ (lt-ltb to g.rows low) (lt-ltb column w thin) ∙ sym (ap (ltb p) (length_turned at n g s) ∙ got.0))
    ∙ ap (λ y. on_screen (has_place T p) (y * w + column)) tx
    ∙ ap (λ y. on_screen (has_place T p) (get_or x (p / w) 0 * w + y)) ec

-- the map of places of a turned screen, into the cells below
pub into : (at : List ℕ) (n : ℕ) (g : Grid) → Permutes at n → Sound g → Into (under (fitted at n g.rows) g.columns) (g.rows * g.columns) (length g.cells)
into at n g pm s =
    let Q : ℕ → Type 0 = λ x. Into (under (fitted at n g.rows) g.columns) (g.rows * g.columns) x in
    subst Q (sym s.filled) (under_into (fitted at n g.rows) g.rows g.columns (fitted_permutes at n g.rows pm s.row_most) s.column_least)
