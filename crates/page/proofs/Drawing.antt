-- Cells written to a screen one after another.
use Rattle.std.proofs.Common.{◌≡◌, ℕ, ◌+◌, ◌-◌, ◌<◌, List, [], ◌++◌, length, drop, set, Ok, Err, Result, sym, refl, ap, ◌∙◌, arith}
use lib.Seq.{paste}
use Rattle.std.proofs.lemmas.List.{drop_all, drop_more, append-nil}
use Rattle.std.proofs.lemmas.List.Edits.{paste_none, paste_more, paste_all, length-paste}
use Rattle.screen.specs.Cells.{Cell}
use Rattle.screen.specs.Grid.{Grid, with_cells, written}
use Rattle.screen.proofs.Grids.{writes}
use Rattle.page.specs.declared.refusal.Refusal.{Refusal}
use Rattle.page.specs.Numbers.{Read, read}
use Rattle.page.specs.Pages.{cell_in, cells_in}
use Rattle.page.proofs.Inversions.{cell_storable}
use Rattle.page.proofs.Cells.{with_cell_inv, cells_more, cells_refused, cells_count}

-- of n cells cs that are to be written over a screen g, the first i stand there, and the reader has the others yet to read
pub record Drawing (g : Grid) (cs : List Cell) (n : ℕ) (os : List ℕ) (i : ℕ) (v : Grid) : Type 0 where
  pub ahead : cells_in (n - i) os ≡ Ok (read (drop i cs) [])
  pub many : length cs ≡ n
  pub sized : length g.cells ≡ n
  pub shown : v ≡ with_cells g (paste g.cells 0 cs i)

pub drawing_none : (g : Grid) (cs : List Cell) (n : ℕ) (os : List ℕ) → cells_in n os ≡ Ok (read cs []) → n ≡ length g.cells → Drawing g cs n os 0 g
drawing_none g cs n os h e =
    let all : n - 0 ≡ n = omega arith in
    record {
      ahead = ap (λ m. cells_in m os) all ∙ h;
      many = cells_count n os (read cs []) h;
      sized = sym e;
      shown = ap (with_cells g) (paste_none g.cells 0 cs);
    }

-- the next cell was read and written
module _ (g : Grid) (cs : List Cell) (n : ℕ) (os : List ℕ) (i : ℕ) (v : Grid) (d : Drawing g cs n os i v) (l : i < n) (after : List ℕ) (w : Grid) where
  abbrev Stepped : Type 0
  Stepped = (c : Cell) (rest : List ℕ) → cell_in os ≡ Ok (read c rest) → (after ≡ rest) × (w ≡ written v i c.code c.protected)

  by_cell : (x : Result (Read Cell) Refusal) → cell_in os ≡ x → Stepped → Drawing g cs n after (i + 1) w
  by_cell (Err e) h step =
      let r = cells_refused n i os e l h in
      let a = d.ahead in
      absurd (cc)
  by_cell (Ok r) h step =
      let c = r.value in
      let s = step c r.rest h in
      let t = with_cell_inv c (cells_in (n - (i + 1)) r.rest) (drop i cs) (sym (cells_more n i os c r.rest l h) ∙ d.ahead) in
      let m = drop_more cs i c (omega (arith, d.many)) in
      let those : t.0 ≡ drop (i + 1) cs = cc in
      let here : 0 + i ≡ i = omega arith in
      let p = paste_more g.cells 0 cs i c (omega (arith, d.sized)) (omega (arith, d.many)) in
      let put : set (paste g.cells 0 cs i) i c ≡ paste g.cells 0 cs (i + 1) = cc in
      let big = length-paste g.cells 0 cs i (omega (arith, d.sized)) (omega (arith, d.many)) in
      record {
        ahead = ap (cells_in (n - (i + 1))) s.0 ∙ t.1 ∙ ap (λ xs. Ok (read xs [])) those;
        many = d.many;
        sized = d.sized;
        shown =
            s.1
            ∙ ap (λ x. written x i c.code c.protected) d.shown
            ∙ writes (with_cells g (paste g.cells 0 cs i)) i c.code c.protected (omega (arith, big, d.sized)) (cell_storable os r h)
            ∙ ap (with_cells g) put;
      }

  pub drawing_more : Stepped → Drawing g cs n after (i + 1) w
  drawing_more step = by_cell (cell_in os) refl step

pub drawing_all : (g : Grid) (cs : List Cell) (n : ℕ) (os : List ℕ) (i : ℕ) (v : Grid) → i ≡ n → Drawing g cs n os i v → v ≡ with_cells g cs
drawing_all g cs n os i v e d =
    d.shown
    ∙ ap (with_cells g) (paste_all g.cells 0 cs i (omega (arith, d.many)))
    ∙ ap (λ xs. with_cells g (cs ++ xs)) (drop_all (0 + i) g.cells (omega (arith, d.sized)))
    ∙ ap (with_cells g) (append-nil cs)
