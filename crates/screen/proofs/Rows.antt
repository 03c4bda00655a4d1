-- Lists laid out in rows: their lengths, what stands at each place, and the steps that move rows by single elements.
use Rattle.std.proofs.Common.{◌≡◌, ℕ, ◌+◌, ◌-◌, ◌*◌, ◌<◌, ◌≤◌, List, length, get_or, drop, set, replicate, sym, ap, ◌∙◌, add-mul, one-mul, arith, rules}
use lib.Seq.{paste}
use Rattle.std.proofs.lemmas.Bool.{cases_lt, cases_eq}
use Rattle.std.proofs.lemmas.Nat.{row_fits}
use Rattle.std.proofs.lemmas.List.{places, same_lists, ext_get_or, get_or-set_other}
use Rattle.std.proofs.lemmas.Grind.{get_or-set_at}
use Rattle.screen.specs.Rows.{clear_row, remove_row, insert_row}

-- a row before another ends where that one begins, or before; and the last row ends the list
pub rows_apart : (q r w : ℕ) → q < r → q * w + w ≤ r * w
rows_apart q r w l = row_fits q w r w l (omega arith)

pub last_row : (h w : ℕ) → 0 < h → (h - 1) * w + w ≡ h * w
last_row h w l = sym (ap (λ x. (h - 1) * w + x) (one-mul w)) ∙ sym (add-mul (h - 1) 1 w) ∙ ap (λ x. x * w) {x = h - 1 + 1} (omega arith)

-- one element more filled, one more moved up, and one more moved down
pub fill_more : {A : Type 0} (xs : List A) (at to : ℕ) (e : A) → at ≤ to → to < length xs
    → set (paste xs at (replicate (to - at) e) (to - at)) to e ≡ paste xs at (replicate (to + 1 - at) e) (to + 1 - at)
fill_more xs at to e b l = same_lists _ _ (search (rules, places)) (λ k d h. grind (arith, places, cases_eq k to, get_or-set_at, get_or-set_other))

pub up_more : {A : Type 0} (xs : List A) (at w to : ℕ) (d : A) → at ≤ to → to + w < length xs
    → set (paste xs at (drop (at + w) xs) (to - at)) to (get_or (paste xs at (drop (at + w) xs) (to - at)) (to + w) d) ≡ paste xs at (drop (at + w) xs) (to + 1 - at)
up_more xs at w to d b l = same_lists _ _ (search (rules, places)) (λ k e h. grind (arith, places, cases_eq k to, get_or-set_at, get_or-set_other))

pub down_more : {A : Type 0} (xs : List A) (w last from : ℕ) (d : A) → last + w ≤ length xs → from < last → 0 < w
    → set (paste xs (from + 1 + w) (drop (from + 1) xs) (last - (from + 1))) (from + w) (get_or (paste xs (from + 1 + w) (drop (from + 1) xs) (last - (from + 1))) from d)
    ≡ paste xs (from + w) (drop from xs) (last - from)
down_more xs w last from d l b z = same_lists _ _ (search (rules, places)) (λ k e h. grind (arith, places, cases_eq k (from + w), get_or-set_at, get_or-set_other))

-- all moved, and the row left over filled anew
pub up_all : {A : Type 0} (e : A) (xs : List A) (r h w : ℕ) → r < h → length xs ≡ h * w
    → clear_row e w (h - 1) (paste xs (r * w) (drop (r * w + w) xs) ((h - 1) * w - r * w)) ≡ remove_row e w r xs
unfolding clear_row remove_row
up_all e xs r h w l f =
    let last = last_row h w (omega arith) in
    let fits = rows_apart r h w l in
    same_lists _ _ (search (rules, places)) (λ k d b. grind (arith, places))

pub down_all : {A : Type 0} (e : A) (xs : List A) (r h w : ℕ) → r < h → length xs ≡ h * w
    → clear_row e w r (paste xs (r * w + w) (drop (r * w) xs) ((h - 1) * w - r * w)) ≡ insert_row e w r xs
unfolding clear_row insert_row
down_all e xs r h w l f =
    let last = last_row h w (omega arith) in
    let fits = rows_apart r h w l in
    same_lists _ _ (search (rules, places)) (λ k d b. grind (arith, places))

-- the length of each, and what stands at each place
pub length_clear_row : {A : Type 0} (e : A) (w r : ℕ) (xs : List A) → r * w + w ≤ length xs → length (clear_row e w r xs) ≡ length xs
unfolding clear_row
length_clear_row e w r xs h = search (rules, places)

pub clear_below : {A : Type 0} (e : A) (w r : ℕ) (xs : List A) (k : ℕ) (d : A) → r * w + w ≤ length xs → k < r * w → get_or (clear_row e w r xs) k d ≡ get_or xs k d
unfolding clear_row
clear_below e w r xs k d h l = grind (arith, places)

pub clear_within : {A : Type 0} (e : A) (w r : ℕ) (xs : List A) (k : ℕ) (d : A) → r * w + w ≤ length xs → r * w ≤ k → k < r * w + w → get_or (clear_row e w r xs) k d ≡ e
unfolding clear_row
clear_within e w r xs k d h l u = grind (arith, places)

pub clear_above : {A : Type 0} (e : A) (w r : ℕ) (xs : List A) (k : ℕ) (d : A) → r * w + w ≤ length xs → r * w + w ≤ k → get_or (clear_row e w r xs) k d ≡ get_or xs k d
unfolding clear_row
clear_above e w r xs k d h l = grind (arith, places)

pub length_remove_row : {A : Type 0} (e : A) (w r : ℕ) (xs : List A) → r * w + w ≤ length xs → length (remove_row e w r xs) ≡ length xs
unfolding remove_row
length_remove_row e w r xs h = search (rules, places)

pub remove_below : {A : Type 0} (e : A) (w r : ℕ) (xs : List A) (k : ℕ) (d : A) → r * w + w ≤ length xs → k < r * w → get_or (remove_row e w r xs) k d ≡ get_or xs k d
unfolding remove_row
remove_below e w r xs k d h l = grind (arith, places)

pub remove_within : {A : Type 0} (e : A) (w r : ℕ) (xs : List A) (k : ℕ) (d : A) → r * w + w ≤ length xs → r * w ≤ k → k + w < length xs → get_or (remove_row e w r xs) k d ≡ get_or xs (k + w) d
unfolding remove_row
remove_within e w r xs k d h l u = grind (arith, places)

pub remove_last : {A : Type 0} (e : A) (w r : ℕ) (xs : List A) (k : ℕ) (d : A) → r * w + w ≤ length xs → length xs ≤ k + w → k < length xs → get_or (remove_row e w r xs) k d ≡ e
unfolding remove_row
remove_last e w r xs k d h l u = grind (arith, places)

pub length_insert_row : {A : Type 0} (e : A) (w r : ℕ) (xs : List A) → r * w + w ≤ length xs → length (insert_row e w r xs) ≡ length xs
unfolding insert_row
length_insert_row e w r xs h = search (rules, places)

pub insert_below : {A : Type 0} (e : A) (w r : ℕ) (xs : List A) (k : ℕ) (d : A) → r * w + w ≤ length xs → k < r * w → get_or (insert_row e w r xs) k d ≡ get_or xs k d
unfolding insert_row
insert_below e w r xs k d h l = grind (arith, places)

pub insert_within : {A : Type 0} (e : A) (w r : ℕ) (xs : List A) (k : ℕ) (d : A) → r * w + w ≤ length xs → r * w ≤ k → k < r * w + w → get_or (insert_row e w r xs) k d ≡ e
unfolding insert_row
insert_within e w r xs k d h l u = grind (arith, places)

pub insert_above : {A : Type 0} (e : A) (w r : ℕ) (xs : List A) (k : ℕ) (d : A) → r * w + w ≤ length xs → r * w + w ≤ k → k < length xs → get_or (insert_row e w r xs) k d ≡ get_or xs (k - w) d
unfolding insert_row
insert_above e w r xs k d h l u = grind (arith, places)

-- a list with these elements at its places is the one
pub is_clear_row : {A : Type 0} (e d : A) (w r : ℕ) (xs ys : List A) → r * w + w ≤ length xs → length ys ≡ length xs
    → ((k : ℕ) → k < r * w → get_or ys k d ≡ get_or xs k d)
    → ((k : ℕ) → r * w ≤ k → k < r * w + w → get_or ys k d ≡ e)
    → ((k : ℕ) → r * w + w ≤ k → k < length xs → get_or ys k d ≡ get_or xs k d)
    → ys ≡ clear_row e w r xs
unfolding clear_row
is_clear_row e d w r xs ys h n below within above =
    ext_get_or d _ _ (n ∙ search (rules, places)) (λ k l. grind (arith, places, below k, within k, above k, cases_lt k (r * w), cases_lt k (r * w + w)))

pub is_remove_row : {A : Type 0} (e d : A) (w r : ℕ) (xs ys : List A) → r * w + w ≤ length xs → length ys ≡ length xs
    → ((k : ℕ) → k < r * w → get_or ys k d ≡ get_or xs k d)
    → ((k : ℕ) → r * w ≤ k → k + w < length xs → get_or ys k d ≡ get_or xs (k + w) d)
    → ((k : ℕ) → length xs ≤ k + w → k < length xs → get_or ys k d ≡ e)
    → ys ≡ remove_row e w r xs
unfolding remove_row
is_remove_row e d w r xs ys h n below within last =
    ext_get_or d _ _ (n ∙ search (rules, places)) (λ k l. grind (arith, places, below k, within k, last k, cases_lt k (r * w), cases_lt (k + w) (length xs)))

pub is_insert_row : {A : Type 0} (e d : A) (w r : ℕ) (xs ys : List A) → r * w + w ≤ length xs → length ys ≡ length xs
    → ((k : ℕ) → k < r * w → get_or ys k d ≡ get_or xs k d)
    → ((k : ℕ) → r * w ≤ k → k < r * w + w → get_or ys k d ≡ e)
    → ((k : ℕ) → r * w + w ≤ k → k < length xs → get_or ys k d ≡ get_or xs (k - w) d)
    → ys ≡ insert_row e w r xs
unfolding insert_row
is_insert_row e d w r xs ys h n below within above =
    ext_get_or d _ _ (n ∙ search (rules, places)) (λ k l. grind (arith, places, below k, within k, above k, cases_lt k (r * w), cases_lt k (r * w + w)))
