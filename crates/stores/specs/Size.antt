-- The sizes that a store can have.
use Rattle.std.specs.Prelude.{◌≡◌, ℕ, ◌*◌, ◌/◌, ◌≤◌, Bool, true, ◌&&◌, ◌||◌, ◌⊎◌, ◌==◌, nat_le}
use Rattle.std.proofs.Common.{inl, inr, ⊎_elim, arith}
use Rattle.std.proofs.lemmas.Bool.{and_parts, or_cases, eqb-true}
use Rattle.screen.specs.View.{Sized}

-- 12 × 80, 16 × 64, 24 × 64 and 24 × 80
abbrev pub allowed : ℕ → ℕ → Bool
allowed rows columns = (columns == 80 && (rows == 12 || rows == 24)) || (columns == 64 && (rows == 16 || rows == 24))

-- an area of n words has room for a store of this size
abbrev pub has_room : ℕ → ℕ → ℕ → Bool
has_room rows columns n = allowed rows columns && nat_le (rows * columns) n

-- either of two heights at one width
either : (r c x y z : ℕ) → (c == x && (r == y || r == z)) ≡ true → (c ≡ x) × ((r ≡ y) ⊎ (r ≡ z))
either r c x y z h =
    let p = and_parts (c == x) (r == y || r == z) h in
    (eqb-true c x p.0, ⊎_elim (λ a. inl (eqb-true r y a)) (λ a. inr (eqb-true r z a)) (or_cases (r == y) (r == z) p.1))

size_of : (r c x y z : ℕ) → (1 ≤ x) × (x ≤ 80) × (2 ≤ y) × (y ≤ 24) × (2 ≤ z) × (z ≤ 24) → (c ≡ x) × ((r ≡ y) ⊎ (r ≡ z)) → Sized r c
size_of r c x y z b e =
    let s : (2 ≤ r) × (r ≤ 24) =
    ⊎_elim
    (λ (q : r ≡ y). (omega (arith, b.2), omega (arith, b.3)))
    (λ (q : r ≡ z). (omega (arith, b.4), omega (arith, b.5)))
    e.1 in
    record { row_least = s.0; row_most = s.1; column_least = omega (arith, e.0, b.0); column_most = omega (arith, e.0, b.1) }

-- an allowed size is one that a screen can have
pub allowed_sized : (r c : ℕ) → allowed r c ≡ true → Sized r c
allowed_sized r c h =
    ⊎_elim
    (λ a. size_of r c 80 12 24 (omega arith) (either r c 80 12 24 a))
    (λ a. size_of r c 64 16 24 (omega arith) (either r c 64 16 24 a))
    (or_cases (c == 80 && (r == 12 || r == 24)) (c == 64 && (r == 16 || r == 24)) h)

-- a row has whole bytes of marks
pub allowed_bytes : (r c : ℕ) → allowed r c ≡ true → c ≡ 8 * (c / 8)
allowed_bytes r c h =
    ⊎_elim
    (λ a. omega (arith, (either r c 80 12 24 a).0))
    (λ a. omega (arith, (either r c 64 16 24 a).0))
    (or_cases (c == 80 && (r == 12 || r == 24)) (c == 64 && (r == 16 || r == 24)) h)
