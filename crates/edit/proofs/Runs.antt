-- Runs of cells that pass a test.
use Rattle.std.proofs.Common.{◌≡◌, ℕ, zero, suc, ◌+◌, ◌-◌, ◌<◌, ◌≤◌, Bool, true, false, cond, ltb, List, [], ◌∷◌, length, get_or, take, drop, Some, None, Option, unwrap_or, sym, ap, ◌∙◌, ⊎_elim, arith}
use Rattle.std.specs.List.{prefix_len, between}
use Rattle.std.specs.Option.{MatchOption}
use Rattle.std.proofs.lemmas.Bool.{cond-true, cond-false, le-ltb, cond_both, lt-ltb, ltb-true, cases_lt}
use Rattle.std.proofs.lemmas.List.{drop_more, length-drop, take_rest}
use Rattle.std.proofs.lemmas.List.Edits.{get_or-between, length-between}
use Rattle.std.proofs.lemmas.List.Sums.{prefix_len_is}
use Rattle.screen.specs.Cells.{Cell, blank}
use Rattle.screen.specs.Grid.{Grid}
use Rattle.edit.specs.View.{size}
use Rattle.edit.specs.Writing.{is_protected, open_from, first_open, any_open}

-- the first cell of a part, and the others
pub part_more : (cs : List Cell) (at end : ℕ) → at < end → at < length cs → between at end cs ≡ get_or cs at blank ∷ between (at + 1) end cs
part_more cs at end h l =
    let n : ℕ = end - (at + 1) in
    let s : end - at ≡ suc n = omega arith in
    ap (λ k. take k (drop at cs)) s ∙ ap (take (suc n)) (drop_more cs at blank l)

-- the answer b of a test at the place k
abbrev pub Tests : (Cell → Bool) → List Cell → Bool → ℕ → Type 0
Tests p cs b k = p (get_or cs k blank) ≡ b

-- what a search tells of the places from one on, before the end: those before the one found pass a test, and it does not
abbrev pub FirstNot : (Cell → Bool) → List Cell → ℕ → ℕ → Option ℕ → Type 0
FirstNot p cs from end r =
    MatchOption r ((k : ℕ) → from ≤ k → k < end → Tests p cs true k)
    (λ i. (from ≤ i) × (i < end) × Tests p cs false i × ((k : ℕ) → from ≤ k → k < i → Tests p cs true k))

stops_at : (p : Cell → Bool) (cs : List Cell) (from end i : ℕ) → from ≤ i → i ≤ end → end ≤ length cs → ((k : ℕ) → from ≤ k → k < i → Tests p cs true k)
    → (i < end → Tests p cs false i) → i ≡ from + prefix_len p (between from end cs)
stops_at p cs from end i a b h before at =
    let long = length-between cs from end h in
    let here : (k : ℕ) → k < end - from → get_or (between from end cs) k blank ≡ get_or cs (from + k) blank = λ k l. get_or-between cs from end k blank (omega arith) in
    let on : from + (i - from) ≡ i = omega arith in
    let n : prefix_len p (between from end cs) ≡ i - from =
    prefix_len_is p (between from end cs) (i - from) blank (omega (arith, long)) (λ k l. ap p (here k (omega arith)) ∙ before (from + k) (omega arith) (omega arith))
    (λ l. ap p (here (i - from) (omega (arith, long)) ∙ ap (λ j. get_or cs j blank) on) ∙ at (omega (arith, long))) in
    omega (arith, n)

-- so it stops at the end of a run, at the end of all where every cell passes
pub first_not : (p : Cell → Bool) (cs : List Cell) (from end : ℕ) (r : Option ℕ) → from ≤ end → end ≤ length cs → FirstNot p cs from end r
    → unwrap_or r end ≡ from + prefix_len p (between from end cs)
first_not p cs from end None a h f = stops_at p cs from end end a (omega arith) h f (λ l. absurd (omega arith))
first_not p cs from end (Some i) a h f = stops_at p cs from end i f.0 (omega (arith, f.1)) h f.3 (λ _. f.2)

pub first_not_all : (p : Cell → Bool) (cs : List Cell) (from end : ℕ) (r : Option ℕ) → from ≤ end → end ≡ length cs → FirstNot p cs from end r
    → unwrap_or r end ≡ from + prefix_len p (drop from cs)
first_not_all p cs from end r a h f =
    first_not p cs from end r a (omega (arith, h)) f
    ∙ ap (λ n. from + prefix_len p (between from n cs)) h
    ∙ ap (λ xs. from + prefix_len p xs) (take_rest cs from)

-- the same as an answer, none where every cell passes
pub first_not_if : (p : Cell → Bool) (cs : List Cell) (from end : ℕ) (r : Option ℕ) → from ≤ end → end ≡ length cs → FirstNot p cs from end r
    → let n = from + prefix_len p (drop from cs) in r ≡ cond (ltb n (length cs)) (Some n) None
first_not_if p cs from end None a h f =
    let n : ℕ = from + prefix_len p (drop from cs) in
    let e : end ≡ n = first_not_all p cs from end None a h f in
    sym (cond-false (ltb n (length cs)) (Some n) None (le-ltb n (length cs) (omega arith)))
first_not_if p cs from end (Some i) a h f =
    let n : ℕ = from + prefix_len p (drop from cs) in
    let e : i ≡ n = first_not_all p cs from end (Some i) a h f in
    ap Some e ∙ sym (cond-true (ltb n (length cs)) (Some n) None (lt-ltb n (length cs) (omega (arith, f.1))))

-- where every cell is protected, so is every cell from a place on
all_protected : (cs : List Cell) (p : ℕ) → length cs ≤ prefix_len is_protected cs → length (drop p cs) ≤ prefix_len is_protected (drop p cs)
all_protected cs zero h = h
all_protected [] (suc p) h = h
all_protected (c ∷ cs) (suc p) h =
    all_protected cs p
    (cond_both c.protected (1 + prefix_len is_protected cs) 0 (λ n. suc (length cs) ≤ n → length cs ≤ prefix_len is_protected cs) (λ _ l. omega arith) (λ _ l. omega arith) h)

-- the first open cell at or after a place, if any
abbrev pub placed : Grid → ℕ → Option ℕ
placed g p = cond (ltb (open_from g p) (size g)) (Some (open_from g p)) None

-- so the search from a place on and then from the first finds one where there is any
pub next_is : (g : Grid) (p : ℕ) (a r : Option ℕ) → p ≤ size g → a ≡ placed g p → MatchOption a (r ≡ placed g 0) (λ x. r ≡ Some x)
    → r ≡ cond (any_open g) (Some (first_open g p)) None
next_is g p a r h e m =
    cond_both (ltb (open_from g p) (size g)) (open_from g p) (open_from g 0) (λ n. r ≡ cond (any_open g) (Some n) None)
    (λ found.
    let any : any_open g ≡ true = lt-ltb (open_from g 0) (size g) (⊎_elim (λ l. l)
    (λ none. absurd (omega (arith, ltb-true _ _ found, all_protected g.cells p (omega arith), length-drop p g.cells))) (cases_lt (open_from g 0) (size g))) in
    let some : a ≡ Some (open_from g p) = e ∙ cond-true (ltb (open_from g p) (size g)) _ _ found in
    (rw some at m) ∙ sym (cond-true (any_open g) (Some (open_from g p)) None any))
    (λ lost.
    let none : a ≡ None = e ∙ cond-false (ltb (open_from g p) (size g)) _ _ lost in
    rw none at m)
