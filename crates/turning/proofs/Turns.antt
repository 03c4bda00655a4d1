-- An order after its part is turned.
use Rattle.std.proofs.Common.{◌++◌, ◌≡◌, ℕ, ◌+◌, ◌-◌, ◌<◌, ◌≤◌, List, length, take, drop, sym, ◌∙◌, arith}
use borrow.Rule.Slice.PartMut.{put_mid, mid_of}
use Rattle.std.proofs.lemmas.Bool.{cases_lt}
use Rattle.std.proofs.lemmas.Bool.Decides.{nat_tests}
use Rattle.std.proofs.lemmas.List.{places}
use Rattle.turning.specs.Order.{Permutes, Moved, up, down, one_place}

pub rotated_up : (xs part : List ℕ) (r h n : ℕ) → n ≡ 1 → r < h → h ≤ length xs → part ≡ drop n (mid_of r (h - r) xs) ++ take n (mid_of r (h - r) xs)
    → Moved (up r h) xs h (put_mid r (h - r) xs part)
rotated_up xs part r h n one l m e = record {
  long = grind (arith, places);
  came = λ i a. grind (arith, places, nat_tests, cases_lt i r, cases_lt (i + 1) h);
}

pub rotated_down : (xs part : List ℕ) (r h : ℕ) → r < h → h ≤ length xs
    → part ≡ drop (length (mid_of r (h - r) xs) - 1) (mid_of r (h - r) xs) ++ take (length (mid_of r (h - r) xs) - 1) (mid_of r (h - r) xs)
    → Moved (down r h) xs h (put_mid r (h - r) xs part)
rotated_down xs part r h l n e = record {
  long = grind (arith, places);
  came = λ i a. grind (arith, places, nat_tests, cases_lt i r, cases_lt r i);
}

-- an order stays one where its rows only change places
moved_permutes : (f : ℕ → ℕ) (xs ys : List ℕ) (h k : ℕ) → ((i : ℕ) → i < h → f i < h) → ((i j : ℕ) → i < h → j < h → f i ≡ f j → i ≡ j)
    → Permutes xs h → Moved f xs h ys → k ≡ h → Permutes ys k
moved_permutes f xs ys h k into one p m n = (
  omega (arith, m.long, p.0),
  λ i a. let b : i < h = omega arith in omega (arith, m.came i b, p.1 (f i) (into i b)),
  λ i j e.
      let a : i < h = omega (arith, e.0, e.1) in
      let b : j < h = omega (arith, e.1) in
      let same : i ≡ j = one i j a b (one_place xs h (f i) (f j) p (into i a) (into j b) (sym (m.came i a) ∙ e.2 ∙ m.came j b)) in
      omega (arith, e.0),
)

up_into : (r h i : ℕ) → r < h → i < h → up r h i < h
up_into r h i l a = grind (arith, nat_tests)

up_one : (r h i j : ℕ) → r < h → i < h → j < h → up r h i ≡ up r h j → i ≡ j
up_one r h i j l a b e = grind (arith, nat_tests)

down_into : (r h i : ℕ) → r < h → i < h → down r h i < h
down_into r h i l a = grind (arith, nat_tests)

down_one : (r h i j : ℕ) → r < h → i < h → j < h → down r h i ≡ down r h j → i ≡ j
down_one r h i j l a b e = grind (arith, nat_tests)

pub up_permutes : (xs ys : List ℕ) (r h k : ℕ) → r < h → Permutes xs h → Moved (up r h) xs h ys → k ≡ h → Permutes ys k
up_permutes xs ys r h k l = moved_permutes (up r h) xs ys h k (λ i. up_into r h i l) (λ i j. up_one r h i j l)

pub down_permutes : (xs ys : List ℕ) (r h k : ℕ) → r < h → Permutes xs h → Moved (down r h) xs h ys → k ≡ h → Permutes ys k
down_permutes xs ys r h k l = moved_permutes (down r h) xs ys h k (λ i. down_into r h i l) (λ i j. down_one r h i j l)
