-- Facts of every character and octet of a parity, where antt computes them at all their values.
use Rattle.std.specs.Prelude.{◌≡◌, ℕ, ◌+◌, ◌/◌, ◌%◌, ◌^◌, ◌<◌, Bool, true, false, not, ◌==◌, bit_and, bit_xor, refl}
use Rattle.std.proofs.Common.{ap, ◌∙◌, arith}
use Rattle.std.proofs.lemmas.Bool.{agree_below, agree_below_at, cond_both}
use Rattle.line.specs.declared.parity.Parity.{Parity}
use Rattle.line.specs.declared.parity.Parity.TheVariants.{Even, Odd}
use Rattle.line.specs.Parity.{ones, has_parity, with_parity}

-- an octet folded onto its lowest bit
abbrev folded : ℕ → ℕ
folded o =
    let four : ℕ = bit_xor o (o / 16) in
    let two : ℕ = bit_xor four (four / 4) in
    bit_and (bit_xor two (two / 2)) 1

-- the folded bit shows the octet's parity by its number
pub folded_even : (o : ℕ) → o < 256 → (folded o == 0) ≡ has_parity Even o
unfolding ones
folded_even o h = agree_below_at (λ k. folded k == 0) (has_parity Even) 256 o refl h

pub folded_odd : (o : ℕ) → o < 256 → (folded o == 1) ≡ has_parity Odd o
unfolding ones
folded_odd o h = agree_below_at (λ k. folded k == 1) (has_parity Odd) 256 o refl h

-- a character's octet has the parity
good : (p : Parity) (c : ℕ) → c < 128 → has_parity p (with_parity p c) ≡ true
unfolding ones
good Even c h = agree_below_at (λ k. has_parity Even (with_parity Even k)) (λ _. true) 128 c refl h
good Odd c h = agree_below_at (λ k. has_parity Odd (with_parity Odd k)) (λ _. true) 128 c refl h

-- a character's octet gives it back
pub gives_back : (p : Parity) (c : ℕ) → c < 128 → (has_parity p (with_parity p c) ≡ true) × (with_parity p c % 128 ≡ c)
gives_back p c h = (good p c h, cond_both (has_parity p c) c (c + 128) (λ o. o % 128 ≡ c) (λ _. omega arith) (λ _. omega arith))

-- a character's octet is an octet, and an octet's character a character
pub in_range : (p : Parity) → ((c : ℕ) → c < 128 → with_parity p c < 256) × ((o : ℕ) → has_parity p o ≡ true → o % 128 < 128)
in_range p = (λ c h. cond_both (has_parity p c) c (c + 128) (λ o. o < 256) (λ _. omega arith) (λ _. omega arith), λ o _. omega arith)

-- with one bit changed an octet has the other parity
flips : Parity → ℕ → Bool
unfolding ones
flips p o = agree_below (λ i. has_parity p (bit_xor o (2 ^ i))) (λ _. not (has_parity p o)) 8

flips_all : (p : Parity) (o : ℕ) → o < 256 → flips p o ≡ true
unfolding flips ones
flips_all Even o h = agree_below_at (flips Even) (λ _. true) 256 o refl h
flips_all Odd o h = agree_below_at (flips Odd) (λ _. true) 256 o refl h

-- so a good octet with one bit changed is bad
pub detects : (p : Parity) (o i : ℕ) → o < 256 → i < 8 → has_parity p o ≡ true → has_parity p (bit_xor o (2 ^ i)) ≡ false
unfolding flips
detects p o i h l g = agree_below_at (λ i. has_parity p (bit_xor o (2 ^ i))) (λ _. not (has_parity p o)) 8 i (flips_all p o h) l ∙ ap not g
