-- The upper left part of a screen.
use Rattle.std.specs.Prelude.{◌≡◌, ℕ, ◌+◌, ◌*◌, ◌/◌, ◌%◌, ◌<◌, ◌≤◌, min, Bool, cond, ◌&&◌, length, nat_le, nat_lt, slice_index_or}
use Rattle.std.proofs.Common.{sym, ◌∙◌, ap, arith, mul_comm}
use Rattle.std.proofs.lemmas.Nat.{mul-add-lt, div_below, mod_below, div-mul-add, mod-mul-add, div-add-mod'}
use Rattle.screen.specs.Cells.{blank}
use Rattle.screen.specs.Grid.{Grid, Sound, with_cells}
use Rattle.screen.specs.View.{table, view, Into, Sized, view_sound}

-- whether a window of this size can stand over the screen
abbrev pub fits_in : ℕ → ℕ → Grid → Bool
fits_in h w g = nat_le 2 h && (nat_le h g.rows && (nat_le 1 w && nat_le w g.columns))

-- the place below of the place k of a window of w columns, over a screen of W columns
unfoldable pub corner : ℕ → ℕ → ℕ → ℕ
corner W w k = k / w * W + k % w

-- the upper left part of h rows and w columns, or as much of it as there is
abbrev pub windowed : ℕ → ℕ → Grid → Grid
windowed h w g = view (corner g.columns (min w g.columns)) (min h g.rows) (min w g.columns) g

-- whether a place of a screen of W columns lies in its upper left part of h rows and w columns
abbrev pub inside : ℕ → ℕ → ℕ → ℕ → Bool
inside W h w k = nat_lt (k / W) h && nat_lt (k % W) w

-- the screen with open spaces in that part: what lies outside it
abbrev pub outside : ℕ → ℕ → Grid → Grid
outside h w g = with_cells g (table (length g.cells) (λ k. cond (inside g.columns h w k) blank (slice_index_or g.cells k blank)))

corner_into : (H W h w : ℕ) → h ≤ H → 1 ≤ w → w ≤ W → Into (corner W w) (h * w) (H * W)
unfolding corner
corner_into H W h w hh z ww = record {
  below = λ k l.
      let q : k / w < H = omega (arith, div_below k w h z l) in
      let c : k % w < W = omega (arith, mod_below k w z) in
      omega (arith, mul-add-lt (k / w) W (k % w) H q c, mul_comm W H);
  apart = λ j k a b e.
      let cj : j % w < W = omega (arith, mod_below j w z) in
      let ck : k % w < W = omega (arith, mod_below k w z) in
      let row : j / w ≡ k / w = sym (div-mul-add (j / w) W (j % w) cj) ∙ ap (λ x. x / W) e ∙ div-mul-add (k / w) W (k % w) ck in
      let col : j % w ≡ k % w = sym (mod-mul-add (j / w) W (j % w) cj) ∙ ap (λ x. x % W) e ∙ mod-mul-add (k / w) W (k % w) ck in
      sym (div-add-mod' j w) ∙ ap (λ x. x * w + j % w) row ∙ ap (λ x. k / w * w + x) col ∙ div-add-mod' k w;
}

pub window_into : (h w : ℕ) (g : Grid) → 1 ≤ w → Sound g → Into (corner g.columns (min w g.columns)) (min h g.rows * min w g.columns) (g.rows * g.columns)
window_into h w g z s = corner_into g.rows g.columns (min h g.rows) (min w g.columns) (omega arith) (omega (arith, s.column_least)) (omega arith)

-- what a window shows is the grid of a screen
pub windowed_sound : (h w : ℕ) (g : Grid) → Sized h w → Sound g → Sound (windowed h w g)
windowed_sound h w g z s =
    view_sound (corner g.columns (min w g.columns)) (min h g.rows) (min w g.columns) g s
    (record {
      row_least = omega (arith, z.row_least, s.row_least);
      row_most = omega (arith, z.row_most);
      column_least = omega (arith, z.column_least, s.column_least);
      column_most = omega (arith, z.column_most);
    })
    (window_into h w g z.column_least s)
