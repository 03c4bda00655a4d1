-- The text of a transmission: a definition over the cells, their size and the cursor.
use Rattle.std.specs.Prelude.{ℕ, zero, suc, ◌+◌, ◌-◌, ◌*◌, ◌/◌, ◌%◌, Bool, true, false, cond, not, ◌&&◌, List, [], ◌∷◌, ◌++◌, length, take, fold, filter, ◌==◌, slice_index_or}
use Rattle.std.specs.List.{suffix_len, between}
use Rattle.codes.specs.Ascii.{HT, VT, CR, SO, SI, ESC, RS, SPACE}
use Rattle.screen.specs.Cells.{Cell, blank}
use Rattle.edit.specs.View.{View}
use Rattle.transmission.specs.declared.kind.Kind.{Kind}
use Rattle.transmission.specs.declared.kind.Kind.TheVariants.{Open, Display}

-- the nearest start of entry at or before a place, protected or open; or place 0
abbrev pub start_at : List Cell → ℕ → ℕ
start_at cs zero = 0
start_at cs (suc p) = cond ((slice_index_or cs (suc p) blank).code == RS) (suc p) (start_at cs p)

-- the open cells, or all
abbrev pub is_sent : Kind → Cell → Bool
is_sent Open c = not c.protected
is_sent Display c = true

abbrev pub is_open_space : Cell → Bool
is_open_space c = c.code == SPACE && not c.protected

-- the characters so far, and the protection of the last cell sent
pub record Sent : Type 0 where
  pub characters : List ℕ
  pub last : Bool

-- SO or SI where the protection changes
abbrev pub turn : Bool → Bool → List ℕ
turn false false = []
turn false true = SO ∷ []
turn true false = SI ∷ []
turn true true = []

-- a tab stop is HT, and where all cells are sent ESC HT
abbrev pub is_escaped : Kind → ℕ → Bool
is_escaped Open c = false
is_escaped Display c = c == HT

abbrev pub spelled : Kind → ℕ → List ℕ
spelled k c = cond (is_escaped k c) (ESC ∷ c ∷ []) (c ∷ [])

-- one cell that is sent
abbrev pub says : Kind → Sent → Cell → Sent
says k o c = record { characters = o.characters ++ (turn o.last c.protected ++ spelled k c.code); last = c.protected }

-- those of some cells that are sent
abbrev pub sends : Kind → List Cell → Sent → Sent
sends k cs o = fold (says k) o (filter (is_sent k) cs)

-- without the open spaces at the end
abbrev pub trimmed : List Cell → List Cell
trimmed cs = take (length cs - suffix_len is_open_space cs) cs

-- one CR for open spaces left out
abbrev pub returned : ℕ → Sent → Sent
returned zero o = o
returned (suc n) o = record { characters = o.characters ++ (CR ∷ []); last = o.last }

-- a row before the cursor's: what is sent of it without the open spaces at its end, and one CR if there were any
abbrev pub row_sends : Kind → List Cell → Sent → Sent
row_sends k cs o = returned (suffix_len is_open_space (filter (is_sent k) cs)) (fold (says k) o (trimmed (filter (is_sent k) cs)))

-- the cells of w columns from the place s through p: n rows, and then the cursor's
abbrev pub rows_sent : Kind → ℕ → List Cell → ℕ → ℕ → ℕ → Sent → Sent
rows_sent k w cs p zero s o = sends k (between s (p + 1) cs) o
rows_sent k w cs p (suc n) s o = rows_sent k w cs p n ((s / w + 1) * w) (row_sends k (between s ((s / w + 1) * w) cs) o)

-- the cells from the place s through the cursor's
abbrev pub stretch : Kind → View → ℕ → Sent → Sent
stretch k v s o = rows_sent k v.grid.columns v.grid.cells v.cursor (v.cursor / v.grid.columns - s / v.grid.columns) s o

-- ESC VT Y X SI with the address of a place
abbrev pub opening : ℕ → ℕ → List ℕ
opening w s = ESC ∷ VT ∷ (s / w + SPACE) ∷ (s % w + SPACE) ∷ SI ∷ []

-- a final SI if the last cell sent was protected
abbrev pub closed : Sent → List ℕ
closed o = o.characters ++ turn o.last false

abbrev pub taken_from : Kind → View → ℕ → List ℕ
taken_from k v s = closed (stretch k v s (record { characters = opening v.grid.columns s; last = false }))

-- the text that a transmission takes up
abbrev pub taken : Kind → View → List ℕ
taken k v = taken_from k v (start_at v.grid.cells v.cursor)
