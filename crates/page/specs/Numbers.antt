-- Numbers in groups of seven bits, the lowest first. An octet's top bit is set while another group follows; a number
-- has two groups at most, and no group of zeros at its end.
use Rattle.std.specs.Prelude.{ℕ, ◌+◌, ◌-◌, ◌*◌, ◌/◌, ◌%◌, Bool, cond, ◌&&◌, List, [], ◌∷◌, Ok, Err, Result, nat_lt}
use Rattle.page.specs.declared.refusal.Refusal.{Refusal}
use Rattle.page.specs.declared.refusal.Refusal.TheVariants.{CutShort, WrongNumber}

-- the octets of a number
abbrev pub number : ℕ → List ℕ
number n = cond (nat_lt n 128) (n ∷ []) ((128 + n % 128) ∷ (n / 128) ∷ [])

-- what was read, and the octets behind it
pub record Read (A : Type 0) : Type 0 where
  pub value : A
  pub rest : List ℕ

abbrev pub read : {A : Type 0} → A → List ℕ → Read A
read x os = record { value = x; rest = os }

-- go on with what was read, or refuse with it
abbrev pub then : {A B : Type 0} → Result A Refusal → (A → Result B Refusal) → Result B Refusal
then (Ok x) f = f x
then (Err e) f = Err e

-- the second group of a number whose first octet is a
abbrev pub second_group : ℕ → List ℕ → Result (Read ℕ) Refusal
second_group a [] = Err CutShort
second_group a (b ∷ os) = cond (nat_lt 0 b && nat_lt b 128) (Ok (read (a - 128 + 128 * b) os)) (Err WrongNumber)

-- the number that octets begin with
abbrev pub first_number : List ℕ → Result (Read ℕ) Refusal
first_number [] = Err CutShort
first_number (a ∷ os) = cond (nat_lt a 128) (Ok (read a os)) (second_group a os)

-- that number, where it is allowed
abbrev pub first_where : (ℕ → Bool) → List ℕ → Result (Read ℕ) Refusal
first_where allowed os = then (first_number os) (λ r. cond (allowed r.value) (Ok r) (Err WrongNumber))

-- what a reading answers, and what it leaves to read
abbrev pub told : {A : Type 0} → Result (Read A) Refusal → Result A Refusal
told d = then d (λ r. Ok r.value)

abbrev pub left : {A : Type 0} → Result (Read A) Refusal → List ℕ → List ℕ
left (Ok r) os = r.rest
left (Err e) os = os
