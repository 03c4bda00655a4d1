-- The pieces of a text: what each takes, and how the list of steps goes on.
use Rattle.std.proofs.Common.{◌≡◌, ℕ, zero, suc, ◌+◌, ◌-◌, ◌<◌, ◌≤◌, true, cond, ◌&&◌, eqb, leb, List, [], ◌∷◌, length, get_or, take, drop, sym, refl, ap, ◌∙◌, ⊎_elim, add-zero, arith}
use Rattle.std.specs.List.{prefix_len}
use Rattle.std.proofs.lemmas.Bool.{cond_both, cond-true, cases_lt, and_parts, eqb-true}
use Rattle.std.proofs.lemmas.List.Sums.{prefix_len-le-length}
use Rattle.std.proofs.lemmas.List.{get_or_past}
use Rattle.codes.specs.Ascii.{VT, SI, ESC}
use Rattle.codes.specs.Classes.{is_data}
use Rattle.text.specs.Steps.{Step, run, escape, Piece, address_at, escape_at, first, steps}

pub address_some : (t : List ℕ) → 1 ≤ (address_at t).taken
address_some t = let P : Piece → Type 0 = λ x. 1 ≤ x.taken in cond_both (leb 2 (prefix_len is_data t) && eqb (get_or t 2 0) SI) _ _ P (λ e. omega arith) (λ e. omega arith)

-- a step takes something, and no more than there is
pub some_taken : (p c : ℕ) (t : List ℕ) → 1 ≤ (first p c t).taken
some_taken p c t =
    let P : Piece → Type 0 = λ x. 1 ≤ x.taken in
    cond_both (is_data c) _ _ P (λ e. rw (cond-true (is_data c) (1 + prefix_len is_data t) 0 e) (omega arith))
    (λ e. cond_both (eqb c ESC) _ _ P (λ f. some_escape_at t) (λ f. omega arith))
  where
    some_escape_at : (t : List ℕ) → 1 ≤ (escape_at t).taken
    some_escape_at [] = omega arith
    some_escape_at (c ∷ t) = let P : Piece → Type 0 = λ x. 1 ≤ x.taken in cond_both (eqb c VT) _ _ P (λ e. address_some t) (λ e. omega arith)

pub none_over : (p c : ℕ) (t : List ℕ) → (first p c t).taken ≤ 1 + length t
none_over p c t =
    let P : Piece → Type 0 = λ x. x.taken ≤ 1 + length t in
    cond_both (is_data c) _ _ P (λ e. let l = prefix_len-le-length is_data (c ∷ t) in omega arith)
    (λ e. cond_both (eqb c ESC) _ _ P (λ f. over_escape_at t) (λ f. omega arith))
  where
    over_address : (t : List ℕ) → (address_at t).taken ≤ 2 + length t
    over_address t =
        let P : Piece → Type 0 = λ x. x.taken ≤ 2 + length t in
        let some = prefix_len-le-length is_data t in
        cond_both (leb 2 (prefix_len is_data t) && eqb (get_or t 2 0) SI) _ _ P
        (λ e. let long : 2 < length t = third t (eqb-true (get_or t 2 0) SI (and_parts (leb 2 (prefix_len is_data t)) (eqb (get_or t 2 0) SI) e).1) in omega arith)
        (λ e. omega arith)
      where
        third : (t : List ℕ) → get_or t 2 0 ≡ SI → 2 < length t
        third t e = ⊎_elim (λ h. h) (λ h. absurd (let z = get_or_past t 2 0 h in omega arith)) (cases_lt 2 (length t))

    over_escape_at : (t : List ℕ) → (escape_at t).taken ≤ 1 + length t
    over_escape_at [] = omega arith
    over_escape_at (c ∷ t) =
        let P : Piece → Type 0 = λ x. x.taken ≤ 2 + length t in
        let h : (cond (eqb c VT) (address_at t) (record { step = escape c; taken = 2 })).taken ≤ 2 + length t = cond_both (eqb c VT) _ _ P (λ e. over_address t) (λ e. omega arith) in
        omega arith

-- what is already taken is passed over
pub steps_skip : (p k : ℕ) (t : List ℕ) → steps p k t ≡ steps (p + k) 0 (drop k t)
steps_skip p zero [] = refl
steps_skip p (suc k) [] = refl
steps_skip p zero (c ∷ t) = ap (λ q. steps q 0 (c ∷ t)) (sym (add-zero p))
steps_skip p (suc k) (c ∷ t) = steps_skip (p + 1) k t ∙ ap (λ q. steps q 0 (drop k t)) (let z : p + 1 + k ≡ p + suc k = omega arith in z)

-- the first step, which takes something, and the rest
steps_more : (p c : ℕ) (t : List ℕ) (s : Step) (n : ℕ) → first p c t ≡ record { step = s; taken = n } → 1 ≤ n → steps p 0 (c ∷ t) ≡ s ∷ steps (p + n) 0 (drop n (c ∷ t))
steps_more p c t s zero e h = absurd (omega arith)
steps_more p c t s (suc k) e h =
    let less : (first p c t).taken - 1 ≡ k = omega (arith, ap (λ x. x.taken) e) in
    let on : p + 1 + k ≡ p + suc k = omega arith in
    ap (λ x. x.step ∷ steps (p + 1) ((first p c t).taken - 1) t) e ∙ ap (λ i. s ∷ steps (p + 1) i t) less ∙ ap (λ r. s ∷ r) (steps_skip (p + 1) k t ∙ ap (λ q. steps q 0 (drop k t)) on)

-- ESC VT and what follows
pub steps_address : (p : ℕ) (t u : List ℕ) (s : Step) (n : ℕ) → 2 ≤ length t → get_or t 0 0 ≡ ESC → get_or t 1 0 ≡ VT → u ≡ drop 2 t → s ≡ (address_at u).step → n ≡ (address_at u).taken
    → steps p 0 t ≡ s ∷ steps (p + n) 0 (drop n t)
steps_address p [] u s n h e f d a b = absurd (omega arith)
steps_address p (c ∷ []) u s n h e f d a b = absurd (omega arith)
steps_address p (c ∷ k ∷ t) u s n h e f d a b =
    let whole : record { step = s; taken = n } ≡ address_at u = ap (λ q. record { step = q; taken = n }) a ∙ ap (λ i. record { step = (address_at u).step; taken = i }) b in
    steps_more p c (k ∷ t) s n (ap (λ x. first p x (k ∷ t)) e ∙ ap (λ x. escape_at (x ∷ t)) f ∙ ap address_at (sym d) ∙ sym whole) (omega (arith, address_some u))

-- data characters
pub steps_run : (p : ℕ) (t : List ℕ) (n : ℕ) → 1 ≤ length t → is_data (get_or t 0 0) ≡ true → n ≡ prefix_len is_data t → steps p 0 t ≡ run (take n t) p ∷ steps (p + n) 0 (drop n t)
steps_run p [] n h d e = absurd (omega arith)
steps_run p (c ∷ t) n h d e =
    let one : prefix_len is_data (c ∷ t) ≡ 1 + prefix_len is_data t = cond-true (is_data c) (1 + prefix_len is_data t) 0 d in
    steps_more p c t (run (take n (c ∷ t)) p) n (cond-true (is_data c) _ _ d ∙ ap (λ k. record { step = run (take k (c ∷ t)) p; taken = k }) (sym e)) (omega arith)
