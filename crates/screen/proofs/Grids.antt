-- A screen's cells under way: rows cleared and moved cell by cell.
use Rattle.std.proofs.Common.{◌≡◌, ℕ, ◌+◌, ◌-◌, ◌*◌, ◌<◌, ◌≤◌, Bool, true, false, ◌&&◌, ltb, List, length, get_or, drop, set, replicate, Ok, sym, refl, ap, ◌∙◌, arith, rules}
use lib.Seq.{paste}
use Rattle.std.proofs.lemmas.Bool.{ltb-true, lt-ltb, and_from, and_parts, cond-true, cond_both}
use Rattle.std.proofs.lemmas.List.{places, same_lists, length-set, get_or-set_same, get_or-set_other}
use Rattle.codes.specs.Ascii.{SPACE}
use Rattle.screen.specs.Cells.{Cell, cell, blank, storable}
use Rattle.screen.specs.Rows.{clear_row, remove_row, insert_row}
use Rattle.screen.specs.Grid.{Grid, Sound, with_cells, has_place, has_row, writable, written, copied, cleared, removed, inserted}
use Rattle.screen.specs.Answers.{on_screen, done_if, parts, read_at}
use Rattle.screen.proofs.Cells.{space_storable}
use Rattle.screen.proofs.Rows.{rows_apart, last_row, fill_more, up_more, down_more, up_all, down_all}

pub has_this_place : (g : Grid) (p : ℕ) → p < length g.cells → has_place g p ≡ true
has_this_place g p l = lt-ltb p (length g.cells) l

pub write_done : (g : Grid) (p c : ℕ) → p < length g.cells → storable c ≡ true → Ok tt ≡ done_if (writable g p c)
write_done g p c l s = sym (ap done_if (and_from _ _ (has_this_place g p l) s))

pub writes : (g : Grid) (p c : ℕ) (m : Bool) → p < length g.cells → storable c ≡ true → written g p c m ≡ with_cells g (set g.cells p (cell c m))
writes g p c m l s = ap (with_cells g) (cond-true (writable g p c) _ _ (and_from _ _ (has_this_place g p l) s))

-- what was written reads back, and every other place reads as before
pub reads_back : (g : Grid) (p c : ℕ) (m : Bool) → writable g p c ≡ true → read_at (written g p c m) p ≡ Ok (c, m)
reads_back g p c m h =
    let both = and_parts (has_place g p) (storable c) h in
    let on : p < length g.cells = ltb-true p (length g.cells) both.0 in
    let g' : Grid = with_cells g (set g.cells p (cell c m)) in
    let here : has_place g' p ≡ true = has_this_place g' p (omega (arith, length-set g.cells p (cell c m))) in
    ap (λ x. read_at x p) (writes g p c m on both.1)
    ∙ ap (λ b. on_screen b (parts (get_or g'.cells p blank))) here
    ∙ ap (λ x. on_screen true (parts x)) (get_or-set_same g.cells p (cell c m) blank on)

pub reads_other : (g : Grid) (p c : ℕ) (m : Bool) (k : ℕ) → (k ≡ p → ⊥) → read_at (written g p c m) k ≡ read_at g k
reads_other g p c m k ne =
    let P : List Cell → Type 0 = λ xs. read_at (with_cells g xs) k ≡ read_at g k in
    cond_both (writable g p c) (set g.cells p (cell c m)) g.cells P
    (λ _.
    ap (λ n. on_screen (ltb k n) (parts (get_or (set g.cells p (cell c m)) k blank))) (length-set g.cells p (cell c m))
    ∙ ap (λ x. on_screen (has_place g k) (parts x)) (get_or-set_other g.cells p k (cell c m) blank ne))
    (λ _. refl)

pub copies : (g : Grid) (to from : ℕ) → to < length g.cells → from < length g.cells → copied g to from ≡ with_cells g (set g.cells to (get_or g.cells from blank))
copies g to from a b = ap (with_cells g) (cond-true (has_place g from && has_place g to) _ _ (and_from _ _ (has_this_place g from b) (has_this_place g to a)))

pub copy_done : (g : Grid) (to from : ℕ) → to < length g.cells → from < length g.cells → Ok tt ≡ done_if (has_place g from && has_place g to)
copy_done g to from a b = sym (ap done_if (and_from _ _ (has_this_place g from b) (has_this_place g to a)))

-- a row on the screen is within the cells
pub row_fits : (g : Grid) (r w : ℕ) → Sound g → w ≡ g.columns → r < g.rows → r * w + w ≤ length g.cells
row_fits g r w s e l = omega (arith, rows_apart r g.rows w l, ap (λ x. g.rows * x) e, s.filled)

pub rows_fit : (g : Grid) (r h w : ℕ) → Sound g → r < h → h ≡ g.rows → w ≡ g.columns → (r * w ≤ (h - 1) * w) × ((h - 1) * w + w ≡ length g.cells)
rows_fit g r h w s l eh ew =
    let last = last_row h w (omega arith) in
    (omega (arith, rows_apart r h w l), last ∙ ap (λ x. x * w) eh ∙ ap (λ x. g.rows * x) ew ∙ sym s.filled)

-- a row on a screen of n rows, and another
pub rows_on : (g : Grid) (n q r : ℕ) → n ≡ g.rows → q < g.rows → r < g.rows → ltb q n ≡ has_row g r
rows_on g n q r e a b = lt-ltb q n (omega arith) ∙ sym (lt-ltb r g.rows b)

-- a row on the screen: what is answered, and the cells after
pub row_done : (g : Grid) (r : ℕ) → r < g.rows → Ok tt ≡ done_if (has_row g r)
row_done g r l = sym (ap done_if (lt-ltb r g.rows l))

pub clears : (g : Grid) (r : ℕ) → r < g.rows → cleared g r ≡ with_cells g (clear_row blank g.columns r g.cells)
clears g r l = ap (with_cells g) (cond-true (has_row g r) _ _ (lt-ltb r g.rows l))

pub removes : (g : Grid) (r : ℕ) → r < g.rows → removed g r ≡ with_cells g (remove_row blank g.columns r g.cells)
removes g r l = ap (with_cells g) (cond-true (has_row g r) _ _ (lt-ltb r g.rows l))

pub inserts : (g : Grid) (r : ℕ) → r < g.rows → inserted g r ≡ with_cells g (insert_row blank g.columns r g.cells)
inserts g r l = ap (with_cells g) (cond-true (has_row g r) _ _ (lt-ltb r g.rows l))

-- the cells from `at` up to `to` cleared; those moved up by w; and those from `from` up to `last` moved down by w
abbrev pub clearing : Grid → ℕ → ℕ → Grid
clearing g at to = with_cells g (paste g.cells at (replicate (to - at) blank) (to - at))

abbrev pub lifting : Grid → ℕ → ℕ → ℕ → Grid
lifting g at w to = with_cells g (paste g.cells at (drop (at + w) g.cells) (to - at))

abbrev pub lowering : Grid → ℕ → ℕ → ℕ → Grid
lowering g w last from = with_cells g (paste g.cells (from + w) (drop from g.cells) (last - from))

-- none yet, one more, and all: v is the screen's grid then
pub clear_none : (g : Grid) (at : ℕ) → g ≡ clearing g at at
clear_none g at = ap (with_cells g) (same_lists _ _ (search (rules, places)) (λ k d b. grind (arith, places)))

pub clear_more : (g v : Grid) (at to : ℕ) → at ≤ to → to < length g.cells → v ≡ clearing g at to → written v to SPACE false ≡ clearing g at (to + 1)
clear_more g v at to b l e =
    let cs = paste g.cells at (replicate (to - at) blank) (to - at) in
    let room : to < length cs = search (rules, places) in
    ap (λ x. written x to SPACE false) e
    ∙ writes (with_cells g cs) to SPACE false room space_storable
    ∙ ap (with_cells g) (fill_more g.cells at to blank b l)

pub clear_all : (g v : Grid) (r w to : ℕ) → r < g.rows → w ≡ g.columns → to ≡ r * w + w → v ≡ clearing g (r * w) to → v ≡ cleared g r
unfolding clear_row
clear_all g v r w to l e f h =
    let all : to - r * w ≡ w = omega arith in
    h
    ∙ ap (λ x. with_cells g (paste g.cells (r * w) (replicate x blank) x)) all
    ∙ ap (λ x. with_cells g (paste g.cells (r * x) (replicate x blank) x)) e
    ∙ sym (clears g r l)

pub lift_none : (g : Grid) (at w : ℕ) → g ≡ lifting g at w at
lift_none g at w = ap (with_cells g) (same_lists _ _ (search (rules, places)) (λ k d b. grind (arith, places)))

pub lift_more : (g v : Grid) (at w to : ℕ) → at ≤ to → to + w < length g.cells → v ≡ lifting g at w to → copied v to (to + w) ≡ lifting g at w (to + 1)
lift_more g v at w to b l e =
    let cs = paste g.cells at (drop (at + w) g.cells) (to - at) in
    let long : length cs ≡ length g.cells = search (rules, places) in
    ap (λ x. copied x to (to + w)) e
    ∙ copies (with_cells g cs) to (to + w) (omega arith) (omega arith)
    ∙ ap (with_cells g) (up_more g.cells at w to blank b l)

pub lift_all : (g v : Grid) (r h w to : ℕ) → Sound g → r < h → h ≡ g.rows → w ≡ g.columns → to ≡ (h - 1) * w → v ≡ lifting g (r * w) w to → cleared v (h - 1) ≡ removed g r
lift_all g v r h w to s l eh ew f e =
    let full : length g.cells ≡ h * w = s.filled ∙ ap (λ x. x * g.columns) (sym eh) ∙ ap (λ x. h * x) (sym ew) in
    let v' : Grid = lifting g (r * w) w ((h - 1) * w) in
    ap (λ x. cleared x (h - 1)) (e ∙ ap (lifting g (r * w) w) f)
    ∙ clears v' (h - 1) (omega arith)
    ∙ ap (λ x. with_cells g (clear_row blank x (h - 1) v'.cells)) (sym ew)
    ∙ ap (with_cells g) (up_all blank g.cells r h w l full)
    ∙ ap (λ x. with_cells g (remove_row blank x r g.cells)) ew
    ∙ sym (removes g r (omega arith))

pub lower_none : (g : Grid) (w last : ℕ) → g ≡ lowering g w last last
lower_none g w last = ap (with_cells g) (same_lists _ _ (search (rules, places)) (λ k d b. grind (arith, places)))

pub lower_more : (g v : Grid) (w last j from : ℕ) → last + w ≤ length g.cells → j ≡ from + 1 → j ≤ last → 0 < w → v ≡ lowering g w last j
    → copied v (from + w) from ≡ lowering g w last from
lower_more g v w last j from l f u z e =
    let cs = paste g.cells (from + 1 + w) (drop (from + 1) g.cells) (last - (from + 1)) in
    let b : from < last = omega arith in
    let long : length cs ≡ length g.cells = search (rules, places) in
    ap (λ x. copied x (from + w) from) (e ∙ ap (lowering g w last) f)
    ∙ copies (with_cells g cs) (from + w) from (omega arith) (omega arith)
    ∙ ap (with_cells g) (down_more g.cells w last from blank l b z)

pub lower_all : (g v : Grid) (r h w from : ℕ) → Sound g → r < h → h ≡ g.rows → w ≡ g.columns → from ≡ r * w → v ≡ lowering g w ((h - 1) * w) from → cleared v r ≡ inserted g r
lower_all g v r h w from s l eh ew f e =
    let full : length g.cells ≡ h * w = s.filled ∙ ap (λ x. x * g.columns) (sym eh) ∙ ap (λ x. h * x) (sym ew) in
    let v' : Grid = lowering g w ((h - 1) * w) (r * w) in
    ap (λ x. cleared x r) (e ∙ ap (lowering g w ((h - 1) * w)) f)
    ∙ clears v' r (omega arith)
    ∙ ap (λ x. with_cells g (clear_row blank x r v'.cells)) (sym ew)
    ∙ ap (with_cells g) (down_all blank g.cells r h w l full)
    ∙ ap (λ x. with_cells g (insert_row blank x r g.cells)) ew
    ∙ sym (inserts g r (omega arith))
