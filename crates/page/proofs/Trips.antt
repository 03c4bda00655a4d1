-- A page written and read back, and a page read and written back.
use Rattle.std.proofs.Common.{◌≡◌, ℕ, zero, suc, ◌+◌, ◌-◌, ◌*◌, ◌%◌, ◌<◌, ◌≤◌, Bool, true, false, eqb, ltb, leb, List, [], ◌∷◌, ◌++◌, map, length, get_or, Ok, sym, refl, ap, ◌∙◌, subst, arith}
use Rattle.std.specs.List.{flat_map}
use Rattle.std.proofs.lemmas.Nat.{mul-le}
use Rattle.std.proofs.lemmas.List.{append_assoc, append-nil}
use Rattle.std.proofs.lemmas.Bool.{le-leb, lt-leb, lt-ltb, eq-eqb, ltb-true, eqb-true, and_from, and_parts, cond-true}
use Rattle.std.proofs.lemmas.Bool.Decides.{nat_tests}
use Rattle.screen.specs.Cells.{Cell, cell, blank, storable}
use Rattle.screen.specs.Grid.{Grid, Sound, with_cells}
use Rattle.screen.proofs.Cells.{storable_seven}
use Rattle.page.specs.declared.reader.Header.{Header}
use Rattle.page.specs.Numbers.{number, Read, read, then, first_where}
use Rattle.page.specs.Pages.{Page, cell_number, page_octets, is_cell, cell_of, cell_in, cells_in, within, cursor_in, columns_in, rows_in, header_in, ended, page_in}
use Rattle.page.specs.Calls.{page_at, octets_at, Drawn, draws, same_size, reads}
use Rattle.page.specs.declared.read.Checked.{Checked}
use Rattle.page.specs.Checks.{page_of, Found, Shown}
use Rattle.page.proofs.Inversions.{then_ok, then_inv, where_inv, cell_inv}
use Rattle.page.proofs.Numerals.{reads_where, Bytes, number_back}

-- the octets of cells
abbrev pub cells_octets : List Cell → List ℕ
cells_octets cs = flat_map number (map cell_number cs)

-- a cell's number is that of the cell, and the cell of its number is that cell
record Numbered (x : ℕ) (b : Bool) : Type 0 where
  small : cell_number (cell x b) < 256
  code : cell_number (cell x b) % 128 ≡ x
  mark : leb 128 (cell_number (cell x b)) ≡ b

numbered : (x : ℕ) (b : Bool) → x < 128 → Numbered x b
numbered x true l = record { small = omega arith; code = omega arith; mark = le-leb 128 (x + 128) (omega arith) }
numbered x false l = record { small = omega arith; code = omega arith; mark = lt-leb 128 (x + 0) (omega arith) }

reads_cell : (c : Cell) (os : List ℕ) → storable c.code ≡ true → cell_in (number (cell_number c) ++ os) ≡ Ok (read c os)
reads_cell c os h =
    let n = cell_number c in
    let m = numbered c.code c.protected (storable_seven c.code h) in
    let kept : storable (n % 128) ≡ true = ap storable m.code ∙ h in
    let is : is_cell n ≡ true = and_from (ltb n 256) (storable (n % 128)) (lt-ltb n 256 m.small) kept in
    ap (λ d. then d (λ x. Ok (read (cell_of x.value) x.rest))) (reads_where is_cell n os (omega (arith, m.small)) is)
    ∙ ap (λ x. Ok (read (cell x (leb 128 n)) os)) m.code
    ∙ ap (λ b. Ok (read (cell c.code b) os)) m.mark

cell_back : (n : ℕ) → is_cell n ≡ true → cell_number (cell_of n) ≡ n
cell_back n h = let l : n < 256 = ltb-true n 256 (and_parts (ltb n 256) (storable (n % 128)) h).0 in grind (arith, nat_tests)

reads_cells : (cs : List Cell) (os : List ℕ) → ((k : ℕ) → k < length cs → storable (get_or cs k blank).code ≡ true)
    → cells_in (length cs) (cells_octets cs ++ os) ≡ Ok (read cs os)
reads_cells [] os h = refl
reads_cells (c ∷ cs) os h =
    ap (cells_in (suc (length cs))) (append_assoc (number (cell_number c)) (cells_octets cs) os)
    ∙ ap (λ d. then d (λ x. then (cells_in (length cs) x.rest) (λ y. Ok (read (x.value ∷ y.value) y.rest)))) (reads_cell c (cells_octets cs ++ os) (h 0 (omega arith)))
    ∙ ap (λ d. then d (λ y. Ok (read (c ∷ y.value) y.rest))) (reads_cells cs os (λ k l. h (suc k) (omega arith)))

cells_back : (n : ℕ) (os : List ℕ) (r : Read (List Cell)) → Bytes os → cells_in n os ≡ Ok r → cells_octets r.value ++ r.rest ≡ os
cells_back zero os r b h = let e : read [] os ≡ r = cc in ap (λ (x : Read (List Cell)). cells_octets x.value ++ x.rest) (sym e)
cells_back (suc n) os r b h =
    let t = then_inv (cell_in os) _ r h in
    let i = cell_inv os t.0 t.1 in
    let u = then_inv (cells_in n t.0.rest) _ r t.2 in
    let e : read (t.0.value ∷ u.0.value) u.0.rest ≡ r = cc in
    let w = number_back os (read i.0 t.0.rest) b i.1 in
    let those = cells_back n t.0.rest u.0 w.1 u.1 in
    let this : cell_number t.0.value ≡ i.0 = ap cell_number (sym i.3) ∙ cell_back i.0 i.2 in
    ap (λ (x : Read (List Cell)). cells_octets x.value ++ x.rest) (sym e)
    ∙ append_assoc (number (cell_number t.0.value)) (cells_octets u.0.value) u.0.rest
    ∙ ap (λ x. number (cell_number t.0.value) ++ x) those
    ∙ ap (λ x. number x ++ t.0.rest) this
    ∙ w.0

-- a number of the header
pub in_range : (least most n : ℕ) → least ≤ n → n ≤ most → within least most n ≡ true
in_range least most n l m = and_from (leb least n) (leb n most) (le-leb least n l) (le-leb n most m)

pub few_cells : (g : Grid) → Sound g → length g.cells ≤ 24 * 80
few_cells g s = omega (arith, s.filled, mul-le g.rows g.columns 24 80 s.row_most s.column_most)

module _ (g : Grid) (cursor : ℕ) (s : Sound g) (on : cursor < length g.cells) where
  -- a page that was written is read as the page of that screen
  pub page_read : page_in (octets_at g cursor) ≡ Ok (page_at g cursor)
  page_read =
      let J = cells_octets g.cells in
      let a = reads_where (within 1 1) 1 (number g.rows ++ (number g.columns ++ (number cursor ++ J))) (omega arith) refl in
      let b = reads_where (within 2 24) g.rows (number g.columns ++ (number cursor ++ J)) (omega (arith, s.row_most)) (in_range 2 24 g.rows s.row_least s.row_most) in
      let d = reads_where (within 1 80) g.columns (number cursor ++ J) (omega (arith, s.column_most)) (in_range 1 80 g.columns s.column_least s.column_most) in
      let place : within 0 (g.rows * g.columns - 1) cursor ≡ true = in_range 0 (g.rows * g.columns - 1) cursor (omega arith) (omega (arith, s.filled)) in
      let e = reads_where (within 0 (g.rows * g.columns - 1)) cursor J (omega (arith, few_cells g s)) place in
      let all : cells_in (g.rows * g.columns) J ≡ Ok (read g.cells []) =
      ap (λ m. cells_in m J) (sym s.filled) ∙ ap (cells_in (length g.cells)) (sym (append-nil J)) ∙ reads_cells g.cells [] s.stored in
      let header : header_in (octets_at g cursor) ≡ Ok (read (record { rows = g.rows; columns = g.columns; cursor = cursor }) J) =
      then_ok _ _ (λ v. rows_in v.rest) a
      ∙ then_ok _ _ (λ r. columns_in r.value r.rest) b
      ∙ then_ok _ _ (λ w. cursor_in g.rows w.value w.rest) d
      ∙ then_ok _ _ (λ p. Ok (read (record { rows = g.rows; columns = g.columns; cursor = p.value }) p.rest)) e in
      then_ok _ _ (λ x. then (cells_in (x.value.rows * x.value.columns) x.rest) (λ cs. ended cs.rest (record { rows = x.value.rows; columns = x.value.columns; cursor = x.value.cursor; cells = cs.value }))) header
      ∙ then_ok _ _ (λ cs. ended cs.rest (page_at (with_cells g cs.value) cursor)) all

  -- and on every screen of that size it gives the same cells and the cursor
  pub reads_back : (h : Grid) → h.rows ≡ g.rows → h.columns ≡ g.columns
      → reads h (octets_at g cursor) ≡ record { grid = with_cells h g.cells; answer = Ok cursor }
  reads_back h r w =
      let size : same_size h (page_at g cursor) ≡ true = and_from _ _ (eq-eqb g.rows h.rows (sym r)) (eq-eqb g.columns h.columns (sym w)) in
      ap (draws h) page_read ∙ cond-true (same_size h (page_at g cursor)) _ _ size

only_one : (n : ℕ) → within 1 1 n ≡ true → n ≡ 1
only_one n h = grind (arith, nat_tests)

-- the octets of a header, and others behind them
abbrev pub header_octets : Header → List ℕ → List ℕ
header_octets h os = number 1 ++ (number h.rows ++ (number h.columns ++ (number h.cursor ++ os)))

in_a_row : (os : List ℕ) (v r w p : Read ℕ) → v.value ≡ 1 → number v.value ++ v.rest ≡ os → number r.value ++ r.rest ≡ v.rest
    → number w.value ++ w.rest ≡ r.rest → number p.value ++ p.rest ≡ w.rest
    → header_octets (record { rows = r.value; columns = w.value; cursor = p.value }) p.rest ≡ os
in_a_row os v r w p one a b c d = cc

-- octets that are a page are those of the page
header_back : (os : List ℕ) (h : Read Header) → Bytes os → header_in os ≡ Ok h
    → (header_octets h.value h.rest ≡ os) × Bytes h.rest
header_back os h b e =
    let v = then_inv (first_where (within 1 1) os) _ h e in
    let r = then_inv (first_where (within 2 24) v.0.rest) _ h v.2 in
    let w = then_inv (first_where (within 1 80) r.0.rest) _ h r.2 in
    let p = then_inv (first_where (within 0 (r.0.value * w.0.value - 1)) w.0.rest) _ h w.2 in
    let one = where_inv (within 1 1) os v.0 v.1 in
    let nv = number_back os v.0 b one.0 in
    let nr = number_back v.0.rest r.0 nv.1 (where_inv (within 2 24) v.0.rest r.0 r.1).0 in
    let nw = number_back r.0.rest w.0 nr.1 (where_inv (within 1 80) r.0.rest w.0 w.1).0 in
    let np = number_back w.0.rest p.0 nw.1 (where_inv (within 0 (r.0.value * w.0.value - 1)) w.0.rest p.0 p.1).0 in
    let whole : read (record { rows = r.0.value; columns = w.0.value; cursor = p.0.value }) p.0.rest ≡ h = cc in (
      ap (λ (x : Read Header). header_octets x.value x.rest) (sym whole) ∙ in_a_row os v.0 r.0 w.0 p.0 (only_one v.0.value one.1) nv.0 nr.0 nw.0 np.0,
      λ i. subst (λ (x : Read Header). get_or x.rest i 0 < 256) whole (np.1 i),
    )

ended_inv : (os : List ℕ) (p q : Page) → ended os p ≡ Ok q → (os ≡ []) × (p ≡ q)
ended_inv [] p q h = (refl, cc)
ended_inv (o ∷ os) p q h = absurd (cc)

pub same_octets : (os : List ℕ) (p : Page) → Bytes os → page_in os ≡ Ok p → page_octets p ≡ os
same_octets os p b e =
    let t = then_inv (header_in os) _ p e in
    let h = t.0.value in
    let k = header_back os t.0 b t.1 in
    let u = then_inv (cells_in (h.rows * h.columns) t.0.rest) _ p t.2 in
    let v = ended_inv u.0.rest _ p u.2 in
    let cells = cells_back (h.rows * h.columns) t.0.rest u.0 k.1 u.1 in
    let all : cells_octets u.0.value ≡ t.0.rest = sym (append-nil (cells_octets u.0.value)) ∙ ap (λ x. cells_octets u.0.value ++ x) (sym v.0) ∙ cells in
    ap page_octets (sym v.1)
    ∙ ap (header_octets h) all
    ∙ k.0

-- a page that was found good, and then drawn
pub page_shown : (os : List ℕ) (k : Checked) (g after : Grid) (f : Found os k) → same_size g (page_of k.header f.cells) ≡ true → after ≡ with_cells g f.cells
    → Shown os g k.header.cursor after
page_shown os k g after f size e =
    let h = k.header in
    let t = and_parts (eqb h.rows g.rows) (eqb h.columns g.columns) size in
    let read : reads g os ≡ record { grid = with_cells g f.cells; answer = Ok h.cursor } =
    ap (draws g) f.whole ∙ cond-true (same_size g (page_of h f.cells)) _ _ size in
    record {
      grid = e ∙ sym (ap (λ (d : Drawn). d.grid) read);
      answer = sym (ap (λ (d : Drawn). d.answer) read);
      same = let rows = eqb-true _ _ t.0 in let columns = eqb-true _ _ t.1 in let same = f.same in cc;
    }
