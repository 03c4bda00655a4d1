-- A page's numbers written one after another.
use Rattle.std.proofs.Common.{drop, true, ◌≡◌, ℕ, ◌+◌, ◌<◌, ◌≤◌, List, [], ◌∷◌, ◌++◌, map, length, get_or, take, ap, sym, ◌∙◌, arith, length-append}
use Rattle.std.specs.List.{flat_map}
use Rattle.std.proofs.lemmas.Bool.{ltb-true}
use Rattle.std.proofs.lemmas.List.{append_assoc, drop-drop, take_more, take_at, flat_map_more, get_or-append-add, get_or-map, get_or-take, length-map}
use Rattle.std.proofs.lemmas.List.Edits.{sets, sets-eq}
use Rattle.std.proofs.lemmas.List.Folds.{length-flat_map-take}
use Rattle.area.specs.Over.{over, written_at}
use Rattle.area.proofs.Areas.{over_written}
use Rattle.screen.specs.Cells.{blank}
use Rattle.screen.specs.Grid.{Grid, Sound, has_place}
use Rattle.page.specs.Numbers.{number}
use Rattle.page.specs.Pages.{Page, cell_number, page_numbers}
use Rattle.page.specs.Calls.{octets_at, reads, ReadsBack}
use Rattle.page.proofs.Trips.{reads_back}

-- octets that are set one after another
pub written_by_sets : (a : List ℕ) (p : ℕ) (os : List ℕ) → p + length os ≤ length a → sets a p os ≡ written_at a p os
written_by_sets a p os h =
    sets-eq os a p h
    ∙ append_assoc (take p a) os (drop (p + length os) a)
    ∙ ap (λ d. take p a ++ (os ++ d)) (sym (drop-drop (length os) p a))

-- the octets of the first i numbers
abbrev pub first : List ℕ → ℕ → List ℕ
first ns i = flat_map number (take i ns)

-- they stand at the front of an area that was `before`, up to `end`
pub record Written (ns before : List ℕ) (i end : ℕ) (area : List ℕ) : Type 0 where
  pub next : end ≡ length (first ns i)
  pub octets : area ≡ over (first ns i) before

-- a number before the cells, and that of a cell, are some of the page's
pub header_at : (p : Page) (header : List ℕ) (i : ℕ) → header ≡ take 4 (page_numbers p) → i < length header
    → (i < length (page_numbers p)) × (get_or header i 0 ≡ get_or (page_numbers p) i 0)
header_at p header i e l =
    let four = ap length e in (omega arith, ap (λ xs. get_or xs i 0) e ∙ get_or-take 4 (page_numbers p) i 0 (omega arith))

pub cell_at : (p : Page) (k : ℕ) → k < length p.cells → (4 + k < length (page_numbers p)) × (get_or (page_numbers p) (4 + k) 0 ≡ cell_number (get_or p.cells k blank))
cell_at p k l = (
  omega (arith, length-map p.cells cell_number),
  get_or-append-add (1 ∷ p.rows ∷ p.columns ∷ p.cursor ∷ []) (map cell_number p.cells) k 0 ∙ get_or-map cell_number p.cells k blank 0 l,
)

-- the next number
module _ (ns : List ℕ) (i n : ℕ) (l : i < length ns) (e : n ≡ get_or ns i 0) where
  pub first_more : (j : ℕ) → j ≡ i + 1 → first ns j ≡ first ns i ++ number n
  first_more j s =
      ap (first ns) s
      ∙ ap (flat_map number) (take_more ns i 0 l)
      ∙ sym (flat_map_more number [] (take i ns) (get_or ns i 0))
      ∙ ap (λ x. first ns i ++ number x) (sym e)

  pub longer : (j : ℕ) → j ≡ i + 1 → length (first ns j) ≡ length (first ns i) + length (number n)
  longer j s = ap length (first_more j s) ∙ length-append (first ns i) (number n)

  -- it has room, and is written
  module _ (before : List ℕ) (end : ℕ) (area : List ℕ) (w : Written ns before i end area) where
    pub fits : length (flat_map number ns) ≤ length area → end + length (number n) ≤ length area
    fits h = let r = length-flat_map-take number ns i 0 l in let same = ap (λ x. length (number x)) e in omega (arith, w.next)

    pub more : (j next : ℕ) (after : List ℕ) → j ≡ i + 1 → next ≡ end + length (number n) → after ≡ written_at area end (number n) → Written ns before j next after
    more j next after s p q =
        let all = first_more j s in
        let long = longer j s in
        let joined = over_written (first ns i) (number n) before in
        record { next = cc; octets = cc }

-- what stands in front of an area reads back
pub front_reads_back : (g : Grid) (cursor : ℕ) → Sound g → has_place g cursor ≡ true → (a b : List ℕ) (n : ℕ) → b ≡ over (octets_at g cursor) a → n ≡ length (octets_at g cursor)
    → ReadsBack g cursor (take n b)
front_reads_back g cursor s on a b n e f h r w =
    ap (λ x. reads h (take n x)) e ∙ ap (reads h) (take_at (octets_at g cursor) _ n (sym f)) ∙ reads_back g cursor s (ltb-true _ _ on) h r w
