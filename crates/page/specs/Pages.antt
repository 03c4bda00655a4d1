-- The kept page: the numbers 1, rows, columns, cursor place, and then that of each cell.
use Rattle.std.specs.Prelude.{ℕ, zero, suc, ◌+◌, ◌-◌, ◌*◌, ◌%◌, Bool, cond, ◌&&◌, List, [], ◌∷◌, map, Ok, Err, Result, nat_le, nat_lt}
use Rattle.std.specs.List.{flat_map}
use Rattle.screen.specs.Cells.{Cell, cell, storable}
use Rattle.page.specs.declared.refusal.Refusal.{Refusal}
use Rattle.page.specs.declared.refusal.Refusal.TheVariants.{LeftOver}
use Rattle.page.specs.declared.reader.Header.{Header}
use Rattle.page.specs.Numbers.{number, Read, read, then, first_where}

pub record Page : Type 0 where
  pub rows : ℕ
  pub columns : ℕ
  pub cursor : ℕ
  pub cells : List Cell

-- a cell's number: its character, and 128 more if it is protected
abbrev pub cell_number : Cell → ℕ
cell_number c = c.code + cond c.protected 128 0

-- the numbers of a page, and its octets
abbrev pub page_numbers : Page → List ℕ
page_numbers p = 1 ∷ p.rows ∷ p.columns ∷ p.cursor ∷ map cell_number p.cells

abbrev pub page_octets : Page → List ℕ
page_octets p = flat_map number (page_numbers p)

-- the numbers that are cells, and the cell of each
abbrev pub is_cell : ℕ → Bool
is_cell n = nat_lt n 256 && storable (n % 128)

abbrev pub cell_of : ℕ → Cell
cell_of n = cell (n % 128) (nat_le 128 n)

abbrev pub cell_in : List ℕ → Result (Read Cell) Refusal
cell_in os = then (first_where is_cell os) (λ c. Ok (read (cell_of c.value) c.rest))

-- so many cells
abbrev pub cells_in : ℕ → List ℕ → Result (Read (List Cell)) Refusal
cells_in zero os = Ok (read [] os)
cells_in (suc n) os =
    then (cell_in os) (λ c. then (cells_in n c.rest) (λ cs. Ok (read (c.value ∷ cs.value) cs.rest)))

-- a number from the least to the most
abbrev pub within : ℕ → ℕ → ℕ → Bool
within least most n = nat_le least n && nat_le n most

-- what stands before the cells: 1, a size that a screen can have, and a cursor place on such a screen
abbrev pub cursor_in : ℕ → ℕ → List ℕ → Result (Read Header) Refusal
cursor_in rows columns os =
    then (first_where (within 0 (rows * columns - 1)) os)
    (λ p. Ok (read (record { rows = rows; columns = columns; cursor = p.value }) p.rest))

abbrev pub columns_in : ℕ → List ℕ → Result (Read Header) Refusal
columns_in rows os = then (first_where (within 1 80) os) (λ w. cursor_in rows w.value w.rest)

abbrev pub rows_in : List ℕ → Result (Read Header) Refusal
rows_in os = then (first_where (within 2 24) os) (λ h. columns_in h.value h.rest)

abbrev pub header_in : List ℕ → Result (Read Header) Refusal
header_in os = then (first_where (within 1 1) os) (λ v. rows_in v.rest)

-- nothing stands behind the page
abbrev pub ended : List ℕ → Page → Result Page Refusal
ended [] p = Ok p
ended (o ∷ os) p = Err LeftOver

-- the page that octets are, or the refusal that comes first
abbrev pub page_in : List ℕ → Result Page Refusal
page_in os =
    then (header_in os) (λ h.
    then (cells_in (h.value.rows * h.value.columns) h.rest) (λ cs.
    ended cs.rest (record { rows = h.value.rows; columns = h.value.columns; cursor = h.value.cursor; cells = cs.value })))
