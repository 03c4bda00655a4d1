-- A screen seen through a map of places.
use Rattle.std.specs.Prelude.{◌≡◌, ℕ, ◌*◌, ◌<◌, ◌≤◌, true, List, map, length, get_or, slice_index_or}
use Rattle.std.proofs.Common.{sym, subst, arith, zero-add}
use Rattle.std.specs.List.{range_with_len}
use Rattle.std.proofs.lemmas.List.FromFn.{length-map-range_with_len, get_or-map-range_with_len}
use Rattle.screen.specs.Cells.{Cell, blank, storable}
use Rattle.screen.specs.Grid.{Grid, Sound}

-- the list of f at each place below n
unfoldable pub table : ℕ → (ℕ → Cell) → List Cell
table n f = map f (range_with_len 0 n)

-- h rows of w cells, the cell at each place k from where f k says
abbrev pub view : (ℕ → ℕ) → ℕ → ℕ → Grid → Grid
view f h w g = record { rows = h; columns = w; cells = table (h * w) (λ k. get_or g.cells (f k) blank) }

-- n places, each on a list of m, and no two the same
pub record Into (f : ℕ → ℕ) (n m : ℕ) : Type 0 where
  pub below : (k : ℕ) → k < n → f k < m
  pub apart : (j k : ℕ) → j < n → k < n → f j ≡ f k → j ≡ k

-- the sizes that a screen can have
pub record Sized (h w : ℕ) : Type 0 where
  pub row_least : 2 ≤ h
  pub row_most : h ≤ 24
  pub column_least : 1 ≤ w
  pub column_most : w ≤ 80

pub length_table : (n : ℕ) (f : ℕ → Cell) → length (table n f) ≡ n
unfolding table
length_table n f = length-map-range_with_len f 0 n

pub get_or_table : (n : ℕ) (f : ℕ → Cell) (k : ℕ) → k < n → slice_index_or (table n f) k blank ≡ f k
unfolding table
get_or_table n f k l = get_or-map-range_with_len f 0 n k k blank l (zero-add k)

-- a table of storable cells is the grid of a screen
pub table_sound : (h w : ℕ) (f : ℕ → Cell) → Sized h w → ((k : ℕ) → k < h * w → storable (f k).code ≡ true)
    → Sound (record { rows = h; columns = w; cells = table (h * w) f })
table_sound h w f z s = record {
  row_least = z.row_least;
  row_most = z.row_most;
  column_least = z.column_least;
  column_most = z.column_most;
  filled = length_table (h * w) f;
  stored = λ k l.
      let b : k < h * w = omega (arith, length_table (h * w) f) in
      let P : Cell → Type 0 = λ x. storable x.code ≡ true in
      subst P (sym (get_or_table (h * w) f k b)) (s k b);
}

-- a view of a screen is a screen
pub view_sound : (f : ℕ → ℕ) (h w : ℕ) (g : Grid) → Sound g → Sized h w → Into f (h * w) (g.rows * g.columns) → Sound (view f h w g)
view_sound f h w g s z i =
    table_sound h w (λ k. get_or g.cells (f k) blank) z
    (λ k b. s.stored (f k) (omega (arith, i.below k b, s.filled)))
