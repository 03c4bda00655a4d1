-- Rows in the first part of a list: what moves of whole rows leave, where ys and zs are what a call left in each part.
use Rattle.std.proofs.Common.{◌≡◌, ℕ, ◌+◌, ◌-◌, ◌*◌, ◌<◌, ◌≤◌, List, length, drop, replicate, ap, ◌∙◌, arith, rules}
use lib.Seq.{paste}
use borrow.Rule.Slice.PartMut.{put_mid, mid_of}
use Rattle.std.proofs.lemmas.List.{places, same_lists}
use Rattle.screen.specs.Rows.{clear_row, remove_row, insert_row}
use Rattle.screen.proofs.Rows.{rows_apart}
use Rattle.stores.specs.Front.{in_front}

-- a part of w elements filled
filled : (e at to w : ℕ) (xs ys : List ℕ) → ys ≡ replicate (length (mid_of at (to - at) xs)) e → to ≤ length xs → to - at ≡ w → put_mid at (to - at) xs ys ≡ paste xs at (replicate w e) w
filled e at to w xs ys f l n = ap (put_mid at (to - at) xs) f ∙ same_lists _ _ (search (rules, places)) (λ k d b. grind (arith, places))

pub cleared_front : (e : ℕ) (xs ys : List ℕ) (r h w : ℕ) → r < h → h * w ≤ length xs → ys ≡ replicate (length (mid_of (r * w) (r * w + w - r * w) xs)) e
    → put_mid (r * w) (r * w + w - r * w) xs ys ≡ in_front (h * w) (clear_row e w r) xs
unfolding clear_row
cleared_front e xs ys r h w l n f =
    let fits = rows_apart r h w l in
    filled e (r * w) (r * w + w) w xs ys f (omega arith) (omega arith)
    ∙ same_lists _ _ (search (rules, places)) (λ k d b. grind (arith, places))

pub removed_front : (e : ℕ) (xs ys zs : List ℕ) (r h w : ℕ) → r < h → h * w ≤ length xs
    → ys ≡ paste xs (r * w) (drop (r * w + w) xs) (h * w - (r * w + w)) → zs ≡ replicate (length (mid_of (h * w - w) (h * w - (h * w - w)) ys)) e
    → put_mid (h * w - w) (h * w - (h * w - w)) ys zs ≡ in_front (h * w) (remove_row e w r) xs
unfolding remove_row
removed_front e xs ys zs r h w l n f g =
    let fits = rows_apart r h w l in
    let long : length ys ≡ length xs = ap length f ∙ search (rules, places) in
    filled e (h * w - w) (h * w) w ys zs g (omega arith) (omega arith)
    ∙ ap (λ x. paste x (h * w - w) (replicate w e) w) f
    ∙ same_lists _ _ (search (rules, places)) (λ k d b. grind (arith, places))

pub inserted_front : (e : ℕ) (xs ys zs : List ℕ) (r h w : ℕ) → r < h → h * w ≤ length xs
    → ys ≡ paste xs (r * w + w) (drop (r * w) xs) (h * w - w - r * w) → zs ≡ replicate (length (mid_of (r * w) (r * w + w - r * w) ys)) e
    → put_mid (r * w) (r * w + w - r * w) ys zs ≡ in_front (h * w) (insert_row e w r) xs
unfolding insert_row
inserted_front e xs ys zs r h w l n f g =
    let fits = rows_apart r h w l in
    let long : length ys ≡ length xs = ap length f ∙ search (rules, places) in
    filled e (r * w) (r * w + w) w ys zs g (omega arith) (omega arith)
    ∙ ap (λ x. paste x (r * w) (replicate w e) w) f
    ∙ same_lists _ _ (search (rules, places)) (λ k d b. grind (arith, places))
