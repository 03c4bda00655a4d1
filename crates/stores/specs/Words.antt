-- Cells kept one to a word.
use Rattle.std.specs.Prelude.{◌≡◌, ℕ, ◌+◌, ◌*◌, ◌/◌, ◌%◌, ◌<◌, ◌≤◌, Bool, true, cond, List, map, length, take, ◌==◌, slice_index, slice_index_or}
use Rattle.std.proofs.Common.{sym, ◌∙◌, ap, subst, arith}
use Rattle.std.proofs.lemmas.List.{length-map, length-take-le, get_or-map, get_or-take}
use Rattle.screen.specs.Cells.{Cell, cell, blank, storable}
use Rattle.screen.specs.Grid.{Grid, Sound}
use Rattle.stores.specs.Size.{allowed, allowed_sized}

-- the character in the low eight bits of a word, and the protection in the bit above
abbrev pub word_of : ℕ → Bool → ℕ
word_of c m = c + cond m 256 0

abbrev pub cell_of : ℕ → Cell
cell_of x = cell (x % 256) (x / 256 % 2 == 1)

-- the cells in the first n words
unfoldable pub cells_in : ℕ → List ℕ → List Cell
cells_in n ws = map cell_of (take n ws)

abbrev pub word_grid : ℕ → ℕ → List ℕ → Grid
word_grid rows columns ws = record { rows = rows; columns = columns; cells = cells_in (rows * columns) ws }

-- each of the first n words has a character that a cell can hold
abbrev pub AllStorable : ℕ → List ℕ → Type 0
AllStorable n ws = (k : ℕ) → k < n → storable (slice_index ws k % 256) ≡ true

pub length_cells_in : (n : ℕ) (ws : List ℕ) → n ≤ length ws → length (cells_in n ws) ≡ n
unfolding cells_in
length_cells_in n ws l = length-map (take n ws) cell_of ∙ length-take-le n ws l

pub get_or_cells_in : (n : ℕ) (ws : List ℕ) (k : ℕ) → n ≤ length ws → k < n → slice_index_or (cells_in n ws) k blank ≡ cell_of (slice_index ws k)
unfolding cells_in
get_or_cells_in n ws k l b = get_or-map cell_of (take n ws) k 0 blank (omega (arith, length-take-le n ws l)) ∙ ap cell_of (get_or-take n ws k 0 b)

pub word_sound : (rows columns : ℕ) (ws : List ℕ) → allowed rows columns ≡ true → rows * columns ≤ length ws → AllStorable (rows * columns) ws → Sound (word_grid rows columns ws)
word_sound rows columns ws size room held =
    let z = allowed_sized rows columns size in
    let n : ℕ = rows * columns in
    record {
      row_least = z.row_least;
      row_most = z.row_most;
      column_least = z.column_least;
      column_most = z.column_most;
      filled = length_cells_in n ws room;
      stored = λ k l.
          let b : k < n = omega (arith, length_cells_in n ws room) in
          let P : Cell → Type 0 = λ x. storable x.code ≡ true in
          subst P (sym (get_or_cells_in n ws k room b)) (held k b);
    }
