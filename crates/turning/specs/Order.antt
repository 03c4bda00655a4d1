-- An order of rows, and what a screen below shows through it.
use Rattle.std.specs.Prelude.{◌≡◌, ℕ, ◌+◌, ◌-◌, ◌*◌, ◌/◌, ◌%◌, ◌<◌, ◌≤◌, cond, List, length, ◌==◌, nat_lt, slice_index}
use Rattle.std.proofs.Common.{sym, ◌∙◌, ap, subst, ⊎_elim, arith, mul_comm, zero-add}
use Rattle.std.specs.List.{range_with_len}
use Rattle.std.proofs.lemmas.List.FromFn.{length-range_with_len, get_or-range_with_len}
use Rattle.std.proofs.lemmas.Bool.{eqb-true, cond_both, cases_order}
use Rattle.std.proofs.lemmas.Nat.{mul-add-lt, div_below, mod_below, same_from_place, div-add-mod'}
use Rattle.screen.specs.Grid.{Grid, Sound, has_row, cleared}
use Rattle.screen.specs.View.{view, Into, view_sound}

-- the place below of the place k, where a row has w cells and the row i shows the row `order i` below
unfoldable pub under : List ℕ → ℕ → ℕ → ℕ
under order w k = slice_index order (k / w) * w + k % w

-- each of the first h is one of h rows, and no row stands twice
abbrev pub Permutes : List ℕ → ℕ → Type 0
Permutes order h =
    (h ≤ length order)
    × ((i : ℕ) → i < h → slice_index order i < h)
    × ((i j : ℕ) → (i < j) × (j < h) × (slice_index order i ≡ slice_index order j) → ⊥)

-- the rows below in the order given
abbrev pub turned : List ℕ → Grid → Grid
turned order g = view (under order g.columns) g.rows g.columns g

-- the rows in their own order
abbrev pub natural : List ℕ
natural = range_with_len 0 24

-- the order of h rows: one kept for another number of rows counts as the natural order
abbrev pub fitted : List ℕ → ℕ → ℕ → List ℕ
fitted order n h = cond (n == h) order natural

-- what a turning layer shows that keeps an order of n rows
abbrev pub turned_by : List ℕ → ℕ → Grid → Grid
turned_by order n g = turned (fitted order n g.rows) g

-- the screen below after the row i of the order was freed: that row is cleared, and no cell moves
abbrev pub freed_below : List ℕ → ℕ → Grid → ℕ → ℕ → Grid
freed_below order n g r i = cond (has_row g r) (cleared g (slice_index (fitted order n g.rows) i)) g

-- the row r goes to the end of h, and those after it one up: where the row i came from
abbrev pub up : ℕ → ℕ → ℕ → ℕ
up r h i = cond (nat_lt i r) i (cond (nat_lt (i + 1) h) (i + 1) r)

-- the last of h rows goes to r, and those from r on one down
abbrev pub down : ℕ → ℕ → ℕ → ℕ
down r h i = cond (nat_lt i r) i (cond (nat_lt r i) (i - 1) (h - 1))

-- the first h of ys are those of xs, each from where f says
pub record Moved (f : ℕ → ℕ) (xs : List ℕ) (h : ℕ) (ys : List ℕ) : Type 0 where
  pub long : length ys ≡ length xs
  pub came : (i : ℕ) → i < h → slice_index ys i ≡ slice_index xs (f i)

-- two places of an order with the same row are one
pub one_place : (order : List ℕ) (h i j : ℕ) → Permutes order h → i < h → j < h → slice_index order i ≡ slice_index order j → i ≡ j
one_place order h i j p a b e =
    ⊎_elim
    (λ s. s)
    (⊎_elim (λ (l : i < j). absurd (p.2 i j (l, b, e))) (λ (l : j < i). absurd (p.2 j i (l, a, sym e))))
    (cases_order i j)

pub own : (h i : ℕ) → h ≤ 24 → i < h → slice_index natural i ≡ i
own h i l a = get_or-range_with_len 0 24 i 0 (omega arith) ∙ zero-add i

pub natural_permutes : (h : ℕ) → h ≤ 24 → Permutes natural h
natural_permutes h l = (
  omega (arith, length-range_with_len 0 24),
  λ i a. omega (arith, own h i l a),
  λ i j e. let a : i < h = omega (arith, e.0, e.1) in omega (arith, e.0, e.2, own h i l a, own h j l e.1),
)

pub fitted_permutes : (order : List ℕ) (n h : ℕ) → Permutes order n → h ≤ 24 → Permutes (fitted order n h) h
fitted_permutes order n h p l =
    let P : List ℕ → Type 0 = λ o. Permutes o h in
    let Q : ℕ → Type 0 = λ m. Permutes order m in
    cond_both (n == h) order natural P (λ e. subst Q (eqb-true n h e) p) (λ e. natural_permutes h l)

pub under_into : (order : List ℕ) (h w : ℕ) → Permutes order h → 0 < w → Into (under order w) (h * w) (h * w)
unfolding under
under_into order h w p z = record {
  below = λ k l. omega (arith, mul-add-lt _ w _ h (p.1 (k / w) (div_below k w h z l)) (mod_below k w z), mul_comm w h);
  apart = λ j k a b s.
      let both = same_from_place _ _ _ _ w (mod_below j w z) (mod_below k w z) s in
      let row : j / w ≡ k / w = one_place order h (j / w) (k / w) p (div_below j w h z a) (div_below k w h z b) both.0 in
      sym (div-add-mod' j w) ∙ ap (λ n. n * w + j % w) row ∙ ap (λ n. k / w * w + n) both.1 ∙ div-add-mod' k w;
}

-- what a turning layer shows is the grid of a screen
pub turned_sound : (order : List ℕ) (n : ℕ) (g : Grid) → Permutes order n → Sound g → Sound (turned_by order n g)
turned_sound order n g p s =
    view_sound (under (fitted order n g.rows) g.columns) g.rows g.columns g s
    (record { row_least = s.row_least; row_most = s.row_most; column_least = s.column_least; column_most = s.column_most })
    (under_into (fitted order n g.rows) g.rows g.columns (fitted_permutes order n g.rows p s.row_most) s.column_least)
