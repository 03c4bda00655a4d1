-- Changes of some cells, under way and done.
use Rattle.std.proofs.Common.{◌≡◌, ℕ, suc, ◌+◌, ◌-◌, ◌<◌, ◌≤◌, Bool, true, false, cond, ltb, List, [], ◌∷◌, ◌++◌, length, get_or, set, sym, refl, ap, ◌∙◌, ⊎_elim, arith}
use lib.Seq.{paste}
use Rattle.std.specs.List.{between}
use Rattle.std.proofs.lemmas.Bool.{and_from, cond-true, cond-false, lt-ltb, le-ltb, cases_lt}
use Rattle.std.proofs.lemmas.List.{places, length-drop, length-map, length-replicate, length-append, length-take-le, get_or-map, get_or-replicate, get_or-take, get_or-drop, get_or_append_left, get_or_push, set-get_or}
use Rattle.std.proofs.lemmas.List.Edits.{get_or-between, length-between, paste_none, paste_more, paste_all, length-paste}
use Rattle.codes.specs.Ascii.{SPACE}
use Rattle.screen.specs.Cells.{Cell, cell, blank, storable}
use Rattle.screen.specs.Grid.{Grid, with_cells, writable, written}
use Rattle.screen.proofs.Cells.{space_storable}
use Rattle.edit.specs.View.{size}
use Rattle.edit.specs.Parts.{redraw, erased, emptied, open_erased, deleted, pushed}

-- the first of the new cells s are drawn from p up to the place k
abbrev pub partly : Grid → ℕ → List Cell → ℕ → Grid
partly g p s k = with_cells g (paste g.cells p s (k - p))

-- what is not drawn yet is as it was
pub partly_above : (g v : Grid) (p : ℕ) (s : List Cell) (k j : ℕ) → p ≤ k → k ≤ j → k ≤ size g → k - p ≤ length s → v ≡ partly g p s k → get_or v.cells j blank ≡ get_or g.cells j blank
partly_above g v p s k j a b h l e = ap (λ x. get_or x.cells j blank) e ∙ grind (arith, places)

pub partly_none : (g : Grid) (p : ℕ) (s : List Cell) → g ≡ partly g p s p
partly_none g p s = let none : 0 ≡ p - p = omega arith in ap (with_cells g) (paste_none g.cells p s ∙ ap (paste g.cells p s) none)

pub partly_more : (g v : Grid) (p : ℕ) (s : List Cell) (k c : ℕ) (m : Bool) → p ≤ k → k < size g → k - p < length s → storable c ≡ true → cell c m ≡ get_or s (k - p) blank
    → v ≡ partly g p s k → written v k c m ≡ partly g p s (k + 1)
partly_more g v p s k c m a h l st e w =
    let i : ℕ = k - p in
    let at : p + i ≡ k = omega arith in
    let on : k + 1 - p ≡ i + 1 = omega arith in
    let cs = paste g.cells p s i in
    let long : length cs ≡ size g = length-paste g.cells p s i (omega arith) (omega arith) in
    ap (λ x. written x k c m) w
    ∙ ap (with_cells g)
    (cond-true (writable (with_cells g cs) k c) _ _ (and_from _ _ (lt-ltb k (length cs) (omega arith)) st)
    ∙ ap (set cs k) e
    ∙ ap (λ j. set cs j (get_or s i blank)) (sym at)
    ∙ paste_more g.cells p s i blank (omega arith) l
    ∙ ap (paste g.cells p s) (sym on))

pub partly_all : (g v : Grid) (p end : ℕ) (f : List Cell → List Cell) → p ≤ end → length (f (between p end g.cells)) ≡ end - p → v ≡ partly g p (f (between p end g.cells)) end
    → v ≡ redraw g p (end - p) f
partly_all g v p end f a l w =
    let s = f (between p end g.cells) in
    let at : p + (end - p) ≡ end = omega arith in
    w ∙ ap (with_cells g) (paste_all g.cells p s (end - p) (sym l))

-- where the new cell is the old one, nothing need be drawn
pub partly_same : (g v : Grid) (p : ℕ) (s : List Cell) (k : ℕ) → p ≤ k → k < size g → k - p < length s → get_or g.cells k blank ≡ get_or s (k - p) blank
    → v ≡ partly g p s k → v ≡ partly g p s (k + 1)
partly_same g v p s k a h l e w =
    let i : ℕ = k - p in
    let at : p + i ≡ k = omega arith in
    let on : k + 1 - p ≡ i + 1 = omega arith in
    let cs = paste g.cells p s i in
    let old : get_or cs k blank ≡ get_or g.cells k blank = partly_above g (with_cells g cs) p s k k a (omega arith) (omega arith) (omega arith) refl in
    w
    ∙ ap (with_cells g)
    (sym (set-get_or cs k blank)
    ∙ ap (set cs k) (old ∙ e)
    ∙ ap (λ j. set cs j (get_or s i blank)) (sym at)
    ∙ paste_more g.cells p s i blank (omega arith) l
    ∙ ap (paste g.cells p s) (sym on))

-- the new cells: as many as there were
pub length_erased : (cs : List Cell) → length (erased cs) ≡ length cs
length_erased cs = length-replicate (length cs) blank

pub length_open_erased : (cs : List Cell) → length (open_erased cs) ≡ length cs
length_open_erased cs = length-map cs emptied

pub length_deleted : (cs : List Cell) → length (deleted cs) ≡ length cs
length_deleted cs = simp (length-drop, length-append) (omega arith)

pub length_pushed : (cs : List Cell) → length (pushed cs) ≡ length cs
length_pushed cs = length-take-le (length cs) (blank ∷ cs) (omega arith)

-- each of them
deleted_next : (cs : List Cell) (i : ℕ) → i + 1 < length cs → get_or cs (i + 1) blank ≡ get_or (deleted cs) i blank
deleted_next cs i l =
    let on : i + 1 ≡ 1 + i = omega arith in
    ap (λ j. get_or cs j blank) on ∙ sym (get_or-drop 1 (cs ++ (blank ∷ [])) i blank ∙ get_or_append_left cs (blank ∷ []) blank (1 + i) (omega arith))

deleted_last : (cs : List Cell) (i : ℕ) → i + 1 ≡ length cs → blank ≡ get_or (deleted cs) i blank
deleted_last cs i e = sym (get_or-drop 1 (cs ++ (blank ∷ [])) i blank ∙ get_or_push cs blank blank (1 + i) (omega arith))

-- one cell more of each change; v is the screen's grid then
module _ (g v : Grid) (p end k : ℕ) (low : p ≤ k) (high : k < end) (fits : end ≤ size g) where
  abbrev old : List Cell
  old = between p end g.cells

  long : length old ≡ end - p
  long = length-between g.cells p end fits

  here : get_or old (k - p) blank ≡ get_or g.cells k blank
  here = let at : p + (k - p) ≡ k = omega arith in get_or-between g.cells p end (k - p) blank (omega arith) ∙ ap (λ j. get_or g.cells j blank) at

  pub erase_more : v ≡ partly g p (erased old) k → written v k SPACE false ≡ partly g p (erased old) (k + 1)
  erase_more w =
      partly_more g v p (erased old) k SPACE false low (omega arith) (omega (arith, length_erased old, long)) space_storable
      (sym (get_or-replicate (length old) (k - p) blank blank (omega (arith, long)))) w

  emptied_here : emptied (get_or g.cells k blank) ≡ get_or (open_erased old) (k - p) blank
  emptied_here = ap emptied (sym here) ∙ sym (get_or-map emptied old (k - p) blank blank (omega (arith, long)))

  pub erase_open_more : (get_or v.cells k blank).protected ≡ false → v ≡ partly g p (open_erased old) k → written v k SPACE false ≡ partly g p (open_erased old) (k + 1)
  erase_open_more free w =
      let s = open_erased old in
      let len = length_open_erased old in
      let was = partly_above g v p s k k low (omega arith) (omega arith) (omega (arith, len, long)) w in
      partly_more g v p s k SPACE false low (omega arith) (omega (arith, len, long)) space_storable
      (sym (cond-false (get_or g.cells k blank).protected (get_or g.cells k blank) blank (sym (ap (λ x. x.protected) was) ∙ free)) ∙ emptied_here) w

  pub erase_open_keeps : (get_or v.cells k blank).protected ≡ true → v ≡ partly g p (open_erased old) k → v ≡ partly g p (open_erased old) (k + 1)
  erase_open_keeps shut w =
      let s = open_erased old in
      let len = length_open_erased old in
      let was = partly_above g v p s k k low (omega arith) (omega arith) (omega (arith, len, long)) w in
      partly_same g v p s k low (omega arith) (omega (arith, len, long))
      (sym (cond-true (get_or g.cells k blank).protected (get_or g.cells k blank) blank (sym (ap (λ x. x.protected) was) ∙ shut)) ∙ emptied_here) w

  pub delete_more : (c : ℕ) (m : Bool) → storable c ≡ true → cell c m ≡ cond (ltb (k + 1) end) (get_or v.cells (k + 1) blank) blank → v ≡ partly g p (deleted old) k
      → written v k c m ≡ partly g p (deleted old) (k + 1)
  delete_more c m st e w =
      let len = length_deleted old in
      let on : p + (k - p + 1) ≡ k + 1 = omega arith in
      let was = partly_above g v p (deleted old) k (k + 1) low (omega arith) in
      let next : cond (ltb (k + 1) end) (get_or v.cells (k + 1) blank) blank ≡ get_or (deleted old) (k - p) blank =
      ⊎_elim
      (λ l.
      cond-true (ltb (k + 1) end) _ _ (lt-ltb (k + 1) end l)
      ∙ was (omega arith) (omega (arith, len, long)) w
      ∙ sym (get_or-between g.cells p end (k - p + 1) blank (omega arith) ∙ ap (λ j. get_or g.cells j blank) on)
      ∙ deleted_next old (k - p) (omega (arith, long)))
      (λ l. cond-false (ltb (k + 1) end) _ _ (le-ltb (k + 1) end l) ∙ deleted_last old (k - p) (omega (arith, long)))
      (cases_lt (k + 1) end) in
      partly_more g v p (deleted old) k c m low (omega arith) (omega (arith, len, long)) st (e ∙ next) w

  pub insert_more : (c : ℕ) (m : Bool) → storable c ≡ true → cell c m ≡ get_or (blank ∷ old) (k - p) blank → v ≡ partly g p (pushed old) k
      → written v k c m ≡ partly g p (pushed old) (k + 1)
  insert_more c m st e w =
      let len = length_pushed old in
      partly_more g v p (pushed old) k c m low (omega arith) (omega (arith, len, long)) st (e ∙ sym (get_or-take (length old) (blank ∷ old) (k - p) blank (omega (arith, long)))) w

  pub insert_next : v ≡ partly g p (pushed old) k → get_or v.cells k blank ≡ get_or (blank ∷ old) (k + 1 - p) blank
  insert_next w =
      let on : k + 1 - p ≡ suc (k - p) = omega arith in
      partly_above g v p (pushed old) k k low (omega arith) (omega arith) (omega (arith, length_pushed old, long)) w
      ∙ sym here
      ∙ ap (λ j. get_or (blank ∷ old) j blank) (sym on)
