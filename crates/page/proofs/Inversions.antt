-- What a reading that was not refused says of its parts.
use Rattle.std.proofs.Common.{◌≡◌, ℕ, ◌%◌, Bool, true, false, cond, List, [], length, Ok, Err, Result, sym, refl, ap, ◌∙◌}
use Rattle.std.proofs.lemmas.List.{nil_from_length}
use Rattle.std.proofs.lemmas.Bool.{and_parts}
use Rattle.screen.specs.Cells.{Cell, storable}
use Rattle.page.specs.declared.refusal.Refusal.{Refusal}
use Rattle.page.specs.Numbers.{Read, read, then, first_number, first_where}
use Rattle.page.specs.Pages.{is_cell, cell_of, cell_in}
use Rattle.page.specs.Walk.{end_of}

pub then_ok : {A B : Type 0} (d : Result A Refusal) (x : A) (f : A → Result B Refusal) → d ≡ Ok x → then d f ≡ f x
then_ok d x f h = ap (λ y. then y f) h

pub then_inv : {A B : Type 0} (d : Result A Refusal) (f : A → Result B Refusal) (y : B) → then d f ≡ Ok y
    → (x : A) × (d ≡ Ok x) × (f x ≡ Ok y)
then_inv (Ok x) f y h = (x, refl, h)
then_inv (Err e) f y h = absurd (cc)

pub cond_inv : {A : Type 0} (b : Bool) (x y : A) (e : Refusal) → cond b (Ok x) (Err e) ≡ Ok y → (b ≡ true) × (x ≡ y)
cond_inv true x y e h = (refl, cc)
cond_inv false x y e h = absurd (cc)

pub where_inv : (ok : ℕ → Bool) (os : List ℕ) (r : Read ℕ) → first_where ok os ≡ Ok r → (first_number os ≡ Ok r) × (ok r.value ≡ true)
where_inv ok os r h =
    let t = then_inv (first_number os) _ r h in
    let k = cond_inv (ok t.0.value) t.0 r _ t.2 in
    (t.1 ∙ ap Ok k.1, ap (λ (x : Read ℕ). ok x.value) (sym k.1) ∙ k.0)

pub cell_inv : (os : List ℕ) (r : Read Cell) → cell_in os ≡ Ok r
    → (n : ℕ) × (first_number os ≡ Ok (read n r.rest)) × (is_cell n ≡ true) × (cell_of n ≡ r.value)
cell_inv os r h =
    let t = then_inv (first_where is_cell os) _ r h in
    let w = where_inv is_cell os t.0 t.1 in
    let e : read (cell_of t.0.value) t.0.rest ≡ r = cc in
    (t.0.value, w.0 ∙ ap (λ s. Ok (read t.0.value s)) (ap (λ (x : Read Cell). x.rest) e), w.1, ap (λ (x : Read Cell). x.value) e)

-- a cell that was read can be stored
pub cell_storable : (os : List ℕ) (r : Read Cell) → cell_in os ≡ Ok r → storable r.value.code ≡ true
cell_storable os r h =
    let i = cell_inv os r h in
    ap (λ (c : Cell). storable c.code) (sym i.3) ∙ (and_parts _ (storable (i.0 % 128)) i.2).1

-- a reading that leaves nothing
pub ends_whole : {A : Type 0} (d : Result (Read A) Refusal) (os : List ℕ) → end_of d ≡ Ok os → length os ≡ 0 → (x : A) × (d ≡ Ok (read x []))
ends_whole d os h n =
    let t = then_inv d _ os h in
    let rest : t.0.rest ≡ os = cc in
    (t.0.value, t.1 ∙ ap (λ s. Ok (read t.0.value s)) (rest ∙ nil_from_length os n))
