-- Numbers in groups of seven bits: reading and writing undo each other.
use Rattle.std.proofs.Common.{◌≡◌, ℕ, suc, ◌+◌, ◌-◌, ◌*◌, ◌/◌, ◌%◌, ◌^◌, ◌<◌, ◌≤◌, Bool, true, cond, ◌&&◌, ltb, List, [], ◌∷◌, ◌++◌, get_or, Ok, Err, sym, ap, ◌∙◌, subst, ⊎_elim, arith}
use Rattle.std.proofs.lemmas.Bool.{lt-ltb, le-ltb, ltb-true, and_parts, cond-true, cond-false, cases_lt}
use Rattle.std.proofs.lemmas.Bool.Decides.{nat_tests}
use Rattle.page.specs.declared.refusal.Refusal.TheVariants.{WrongNumber}
use Rattle.page.specs.Numbers.{number, Read, read, then, first_number, second_group, first_where}
use Rattle.page.proofs.Inversions.{cond_inv}

pub small_number : (n : ℕ) → n < 128 → number n ≡ n ∷ []
small_number n h = cond-true (ltb n 128) _ _ (lt-ltb n 128 h)

pub large_number : (n : ℕ) → 128 ≤ n → number n ≡ (128 + n % 128) ∷ (n / 128) ∷ []
large_number n h = cond-false (ltb n 128) _ _ (le-ltb n 128 h)

-- a number that was written is read
pub reads_number : (n : ℕ) (os : List ℕ) → n < 2 ^ 14 → first_number (number n ++ os) ≡ Ok (read n os)
reads_number n os l =
    ⊎_elim
    (λ (s : n < 128). rw (small_number n s) (grind (arith, nat_tests)))
    (λ (s : 128 ≤ n). rw (large_number n s) (grind (arith, nat_tests)))
    (cases_lt n 128)

pub reads_where : (ok : ℕ → Bool) (n : ℕ) (os : List ℕ) → n < 2 ^ 14 → ok n ≡ true → first_where ok (number n ++ os) ≡ Ok (read n os)
reads_where ok n os l h = ap (λ d. then d (λ r. cond (ok r.value) (Ok r) (Err WrongNumber))) (reads_number n os l) ∙ cond-true (ok n) _ _ h

-- octets are below 256
abbrev pub Bytes : List ℕ → Type 0
Bytes os = (i : ℕ) → get_or os i 0 < 256

-- a number that was read is written as it stood
second_back : (a : ℕ) (os : List ℕ) (r : Read ℕ) → 128 ≤ a → a < 256 → Bytes os → second_group a os ≡ Ok r
    → (number r.value ++ r.rest ≡ a ∷ os) × Bytes r.rest
second_back a [] r l u b h = absurd (cc)
second_back a (o ∷ os) r l u b h =
    let n = a - 128 + 128 * o in
    let k = cond_inv (ltb 0 o && ltb o 128) (read n os) r WrongNumber h in
    let t = and_parts (ltb 0 o) (ltb o 128) k.0 in
    let least : 0 < o = ltb-true 0 o t.0 in
    let most : o < 128 = ltb-true o 128 t.1 in
    let low : 128 + n % 128 ≡ a = omega arith in
    let high : n / 128 ≡ o = omega arith in
    let large = large_number n (omega arith) in
    let whole = k.1 in
    (cc, λ i. subst (λ (x : Read ℕ). get_or x.rest i 0 < 256) k.1 (b (suc i)))

first_back : (a : ℕ) (os : List ℕ) (r : Read ℕ) → a < 128 → Bytes os → cond (ltb a 128) (Ok (read a os)) (second_group a os) ≡ Ok r
    → (number r.value ++ r.rest ≡ a ∷ os) × Bytes r.rest
first_back a os r l b h =
    let e : read a os ≡ r = (cond_inv true (read a os) r WrongNumber (sym (cond-true (ltb a 128) _ _ (lt-ltb a 128 l)) ∙ h)).1 in
    let small = small_number a l in
    (cc, λ i. subst (λ (x : Read ℕ). get_or x.rest i 0 < 256) e (b i))

pub number_back : (os : List ℕ) (r : Read ℕ) → Bytes os → first_number os ≡ Ok r → (number r.value ++ r.rest ≡ os) × Bytes r.rest
number_back [] r b h = absurd (cc)
number_back (a ∷ os) r b h =
    ⊎_elim
    (λ (s : a < 128). first_back a os r s (λ i. b (suc i)) h)
    (λ (s : 128 ≤ a). second_back a os r s (b 0) (λ i. b (suc i)) (sym (cond-false (ltb a 128) _ _ (le-ltb a 128 s)) ∙ h))
    (cases_lt a 128)
