-- Cells read one after another.
use Rattle.std.proofs.Common.{◌≡◌, ℕ, zero, suc, ◌+◌, ◌-◌, ◌<◌, List, [], ◌∷◌, length, Ok, Err, Result, sym, refl, ap, ◌∙◌, arith}
use Rattle.screen.specs.Cells.{Cell}
use Rattle.page.specs.declared.refusal.Refusal.{Refusal}
use Rattle.page.specs.Numbers.{Read, read, then}
use Rattle.page.specs.Pages.{cell_in, cells_in}
use Rattle.page.specs.Walk.{end_of}
use Rattle.page.proofs.Inversions.{then_inv}

-- one cell, and then those behind it
abbrev pub with_cell : Cell → Result (Read (List Cell)) Refusal → Result (Read (List Cell)) Refusal
with_cell c d = then d (λ cs. Ok (read (c ∷ cs.value) cs.rest))

end_with_cell : (c : Cell) (d : Result (Read (List Cell)) Refusal) → end_of (with_cell c d) ≡ end_of d
end_with_cell c (Ok r) = refl
end_with_cell c (Err e) = refl

-- n cells of which i are read: the next one, and those behind it
cells_next : (n i : ℕ) (os : List ℕ) → i < n → cells_in (n - i) os ≡ then (cell_in os) (λ x. with_cell x.value (cells_in (n - (i + 1)) x.rest))
cells_next n i os l = let next : n - i ≡ suc (n - (i + 1)) = omega arith in ap (λ m. cells_in m os) next

pub cells_more : (n i : ℕ) (os : List ℕ) (c : Cell) (rest : List ℕ) → i < n → cell_in os ≡ Ok (read c rest)
    → cells_in (n - i) os ≡ with_cell c (cells_in (n - (i + 1)) rest)
cells_more n i os c rest l h = cells_next n i os l ∙ rw h

pub cells_refused : (n i : ℕ) (os : List ℕ) (e : Refusal) → i < n → cell_in os ≡ Err e → cells_in (n - i) os ≡ Err e
cells_refused n i os e l h = cells_next n i os l ∙ rw h

pub end_more : (n i : ℕ) (os : List ℕ) (c : Cell) (rest : List ℕ) → i < n → cell_in os ≡ Ok (read c rest)
    → end_of (cells_in (n - i) os) ≡ end_of (cells_in (n - (i + 1)) rest)
end_more n i os c rest l h = ap end_of (cells_more n i os c rest l h) ∙ end_with_cell c (cells_in (n - (i + 1)) rest)

-- as many as were asked for
pub cells_count : (n : ℕ) (os : List ℕ) (r : Read (List Cell)) → cells_in n os ≡ Ok r → length r.value ≡ n
cells_count zero os r h = let e : read [] os ≡ r = cc in ap (λ (x : Read (List Cell)). length x.value) (sym e)
cells_count (suc n) os r h =
    let t = then_inv (cell_in os) _ r h in
    let u = then_inv (cells_in n t.0.rest) _ r t.2 in
    let e : read (t.0.value ∷ u.0.value) u.0.rest ≡ r = cc in
    ap (λ (x : Read (List Cell)). length x.value) (sym e) ∙ ap suc (cells_count n t.0.rest u.0 u.1)

-- the first of some cells, and those behind it
pub with_cell_inv : (c : Cell) (d : Result (Read (List Cell)) Refusal) (ds : List Cell) → with_cell c d ≡ Ok (read ds [])
    → (es : List Cell) × (d ≡ Ok (read es [])) × (c ∷ es ≡ ds)
with_cell_inv c d ds h =
    let t = then_inv d _ (read ds []) h in
    let e : read (c ∷ t.0.value) t.0.rest ≡ read ds [] = cc in
    (t.0.value, t.1 ∙ ap (λ s. Ok (read t.0.value s)) (ap (λ (x : Read (List Cell)). x.rest) e), ap (λ (x : Read (List Cell)). x.value) e)

refused_end : (d : Result (Read (List Cell)) Refusal) (e : Refusal) → end_of d ≡ Err e → d ≡ Err e
refused_end (Ok r) e h = absurd (cc)
refused_end (Err y) e h = cc

-- a refusal of one cell after others
pub refused_at : (n i : ℕ) (start os : List ℕ) (e : Refusal) → i < n → end_of (cells_in n start) ≡ end_of (cells_in (n - i) os) → cell_in os ≡ Err e
    → cells_in n start ≡ Err e
refused_at n i start os e l inv h = refused_end (cells_in n start) e (inv ∙ ap end_of (cells_refused n i os e l h))
