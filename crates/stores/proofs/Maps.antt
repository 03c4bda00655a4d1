-- What writes and row moves of characters and marks make of the cells.
use Rattle.std.proofs.Common.{◌≡◌, ℕ, ◌+◌, ◌*◌, ◌/◌, ◌%◌, ◌^◌, ◌<◌, ◌≤◌, Bool, true, false, eqb, List, length, get_or, set, replicate, sym, ap, ◌∙◌, mul_assoc, mul_comm, arith, rules}
use native.Mathlib.Nat.{zero-div}
use Rattle.std.proofs.lemmas.Nat.{mul-le}
use Rattle.std.proofs.lemmas.Bool.{cases_lt, cases_eq}
use Rattle.std.proofs.lemmas.List.{places, ext_get_or, get_or-set_other}
use Rattle.std.proofs.lemmas.Grind.{get_or-set_at}
use Rattle.codes.specs.Ascii.{SPACE}
use Rattle.screen.specs.Cells.{cell, blank, storable}
use Rattle.screen.specs.Rows.{clear_row, remove_row, insert_row}
use Rattle.screen.specs.Grid.{Grid, with_cells, cleared, removed, inserted}
use Rattle.screen.specs.View.{table, length_table, get_or_table}
use Rattle.screen.proofs.Cells.{space_storable}
use Rattle.screen.proofs.Rows.{rows_apart}
use Rattle.screen.proofs.Grids.{clears, removes, inserts}
use Rattle.stores.specs.Front.{in_front}
use Rattle.stores.specs.Size.{allowed, allowed_sized, allowed_bytes}
use Rattle.stores.specs.Marks.{bit_of, Marked}
use Rattle.stores.specs.Maps.{cell_at, map_grid, AllCodes}

-- the cells that characters and marks show
pub ruleset shown = (length_table, get_or_table)

-- a store's cells have room
pub cells_most : (rows columns : ℕ) → allowed rows columns ≡ true → rows * columns ≤ 1920
cells_most rows columns a =
    let z = allowed_sized rows columns a in
    mul-le rows columns 24 80 z.row_most z.column_most

-- one cell written
pub set_cells : (n : ℕ) (chars marks : List ℕ) (p c byte : ℕ) (m : Bool) → p < n → p < length chars → p / 8 < length marks → Marked (get_or marks (p / 8) 0) (p % 8) m byte
    → table n (cell_at (set chars p c) (set marks (p / 8) byte)) ≡ set (table n (cell_at chars marks)) p (cell c m)
set_cells n chars marks p c byte m l lc lm h =
    let long = length_table n (cell_at chars marks) in
    let long' = length_table n (cell_at (set chars p c) (set marks (p / 8) byte)) in
    ext_get_or blank _ _ (long' ∙ search (rules, places)) (λ k b. grind (arith, get_or_table, get_or-set_at, get_or-set_other, h.same, h.others, cases_eq k p, cases_eq (k / 8) (p / 8)))

pub set_codes : (n : ℕ) (chars : List ℕ) (p c : ℕ) → AllCodes n chars → p < length chars → storable c ≡ true → AllCodes n (set chars p c)
set_codes n chars p c h l s k b = grind (arith, get_or-set_at, get_or-set_other, h, cases_eq k p)

-- a new store: spaces, and no marks
no_mark : (j : ℕ) → bit_of 0 j ≡ false
unfolding bit_of
no_mark j = ap (λ x. eqb (x % 2) 1) (zero-div (2 ^ j))

pub new_codes : (n m : ℕ) → n ≤ m → AllCodes n (replicate m SPACE)
new_codes n m l k b = grind (arith, places, space_storable)

pub new_cells : (n m q : ℕ) → n ≤ m → n ≤ 8 * q → table n (cell_at (replicate m SPACE) (replicate q 0)) ≡ replicate n blank
new_cells n m q l r =
    let long = length_table n (cell_at (replicate m SPACE) (replicate q 0)) in
    ext_get_or blank _ _ (long ∙ search (rules, places)) (λ k b. grind (arith, places, get_or_table, no_mark))

-- a row of w cells has v bytes of marks
eight_rows : (r w v : ℕ) → w ≡ 8 * v → r * w ≡ 8 * (r * v)
eight_rows r w v e = ap (λ x. r * x) e ∙ sym (mul_assoc r 8 v) ∙ ap (λ x. x * v) (mul_comm r 8) ∙ mul_assoc 8 r v

-- what a row move of characters and of marks leaves: the cells that are shown, and characters that cells can hold
pub record Moved (h w : ℕ) (chars marks : List ℕ) (g : Grid) : Type 0 where
  pub grid : map_grid h w chars marks ≡ g
  pub held : AllCodes (h * w) chars

module _ (h w r : ℕ) (chars marks chars' marks' : List ℕ) (a : allowed h w ≡ true) (l : r < h) (lc : h * w ≤ length chars) (lm : h * (w / 8) ≤ length marks) (held : AllCodes (h * w) chars) where
  laid : (r * w + w ≤ h * w) × (w ≡ 8 * (w / 8)) × (r * w ≡ 8 * (r * (w / 8))) × (h * w ≡ 8 * (h * (w / 8)))
  laid = let e = allowed_bytes h w a in (rows_apart r h w l, e, eight_rows r w (w / 8) e, eight_rows h w (w / 8) e)

  pub cleared_map : chars' ≡ in_front (h * w) (clear_row SPACE w r) chars → marks' ≡ in_front (h * (w / 8)) (clear_row 0 (w / 8) r) marks
      → Moved h w chars' marks' (cleared (map_grid h w chars marks) r)
  unfolding clear_row
  cleared_map ec em =
      let fits = laid in
      let g = map_grid h w chars marks in
      let long = length_table (h * w) (cell_at chars marks) in
      let long' = length_table (h * w) (cell_at chars' marks') in
      record {
        grid = ap (with_cells g) (ext_get_or blank _ _ (long' ∙ search (rules, places)) (λ k b. grind (arith, places, get_or_table, no_mark, cases_lt k (r * w), cases_lt k (r * w + w)))) ∙ sym (clears g r l);
        held = λ k b. grind (arith, places, space_storable, held, cases_lt k (r * w), cases_lt k (r * w + w));
      }

  pub removed_map : chars' ≡ in_front (h * w) (remove_row SPACE w r) chars → marks' ≡ in_front (h * (w / 8)) (remove_row 0 (w / 8) r) marks
      → Moved h w chars' marks' (removed (map_grid h w chars marks) r)
  unfolding remove_row
  removed_map ec em =
      let fits = laid in
      let g = map_grid h w chars marks in
      let long = length_table (h * w) (cell_at chars marks) in
      let long' = length_table (h * w) (cell_at chars' marks') in
      record {
        grid = ap (with_cells g) (ext_get_or blank _ _ (long' ∙ search (rules, places)) (λ k b. grind (arith, places, get_or_table, no_mark, cases_lt k (r * w), cases_lt (k + w) (h * w)))) ∙ sym (removes g r l);
        held = λ k b. grind (arith, places, space_storable, held, cases_lt k (r * w), cases_lt (k + w) (h * w));
      }

  pub inserted_map : chars' ≡ in_front (h * w) (insert_row SPACE w r) chars → marks' ≡ in_front (h * (w / 8)) (insert_row 0 (w / 8) r) marks
      → Moved h w chars' marks' (inserted (map_grid h w chars marks) r)
  unfolding insert_row
  inserted_map ec em =
      let fits = laid in
      let g = map_grid h w chars marks in
      let long = length_table (h * w) (cell_at chars marks) in
      let long' = length_table (h * w) (cell_at chars' marks') in
      record {
        grid = ap (with_cells g) (ext_get_or blank _ _ (long' ∙ search (rules, places)) (λ k b. grind (arith, places, get_or_table, no_mark, cases_lt k (r * w), cases_lt k (r * w + w)))) ∙ sym (inserts g r l);
        held = λ k b. grind (arith, places, space_storable, held, cases_lt k (r * w), cases_lt k (r * w + w));
      }
