-- A text taken up, part by part.
use Rattle.std.proofs.Common.{◌≡◌, ℕ, zero, suc, ◌+◌, ◌-◌, ◌*◌, ◌/◌, ◌%◌, ◌<◌, ◌≤◌, Bool, true, false, cond, eqb, List, [], ◌∷◌, ◌++◌, length, get_or, take, drop, fold, filter, sym, refl, ap, ◌∙◌, subst, ⊎_elim, add-mul, one-mul, div-add-mod', mul-div_cancel, arith}
use Rattle.std.specs.List.{prefix_len, suffix_len, between}
use Rattle.std.proofs.lemmas.Bool.{cases_lt, cond-true, cond-false, eq-eqb, ne_eqb}
use Rattle.std.proofs.lemmas.List.{take-append-drop, take-take, drop-take, drop-drop, take_at, append-nil, length-append, reverse-append}
use Rattle.std.proofs.lemmas.List.Edits.{between_more}
use Rattle.std.proofs.lemmas.List.Elements.{filter-append}
use Rattle.std.proofs.lemmas.Nat.{div_below, mod_below}
use Rattle.screen.specs.Cells.{Cell, blank}
use Rattle.edit.proofs.Runs.{part_more}
use Rattle.codes.specs.Ascii.{RS}
use Rattle.screen.specs.Grid.{Grid, Sound}
use Rattle.edit.specs.View.{View, size}
use Rattle.transmission.specs.declared.kind.Kind.{Kind}
use Rattle.transmission.specs.Text.{start_at, is_sent, is_open_space, Sent, says, sends, trimmed, row_sends, rows_sent, stretch}
use Rattle.transmission.proofs.Trimming.{Trimming}

-- one cell of a part
pub sends_next : (kind : Kind) (cs : List Cell) (k to : ℕ) (o : Sent) → k < to → k < length cs → sends kind (between k to cs) o ≡ sends kind (between (k + 1) to cs) (sends kind (get_or cs k blank ∷ []) o)
sends_next kind cs k to o h l = ap (λ x. sends kind x o) (part_more cs k to h l) ∙ one (is_sent kind c)
  where
    c : Cell
    c = get_or cs k blank

    ys : List Cell
    ys = filter (is_sent kind) (between (k + 1) to cs)

    one : (b : Bool) → fold (says kind) o (cond b (c ∷ ys) ys) ≡ fold (says kind) (fold (says kind) o (cond b (c ∷ []) [])) ys
    one true = refl
    one false = refl

-- the end of a list
ending_push : (p : Cell → Bool) (xs : List Cell) (c : Cell) → suffix_len p (xs ++ (c ∷ [])) ≡ cond (p c) (1 + suffix_len p xs) 0
ending_push p xs c = ap (prefix_len p) (reverse-append xs (c ∷ []))

kept_push : (kind : Kind) (cs : List Cell) (from i : ℕ) → from ≤ i → i < length cs
    → filter (is_sent kind) (between from (i + 1) cs) ≡ filter (is_sent kind) (between from i cs) ++ filter (is_sent kind) (get_or cs i blank ∷ [])
kept_push kind cs from i h l = ap (filter (is_sent kind)) (between_more cs from i blank h l) ∙ filter-append (is_sent kind) (between from i cs) (get_or cs i blank ∷ [])

-- one cell back: not sent, or an open space
pub trimming_no : (kind : Kind) (cs : List Cell) (from i to left : ℕ) → from ≤ i → i < to → i < length cs → is_sent kind (get_or cs i blank) ≡ false
    → Trimming kind cs from (i + 1) to left → Trimming kind cs from i to left
trimming_no kind cs from i to left h l f e t =
    let c = get_or cs i blank in
    let one : filter (is_sent kind) (between i to cs) ≡ filter (is_sent kind) (between (i + 1) to cs) = ap (filter (is_sent kind)) (part_more cs i to l f) ∙ cond-false (is_sent kind c) _ _ e in
    let two : filter (is_sent kind) (between from (i + 1) cs) ≡ filter (is_sent kind) (between from i cs) =
    kept_push kind cs from i h f ∙ ap (λ x. filter (is_sent kind) (between from i cs) ++ x) (cond-false (is_sent kind c) (c ∷ []) [] e) ∙ append-nil (filter (is_sent kind) (between from i cs)) in
    record { low = h; room = omega (arith, t.room); behind = ap length one ∙ t.behind; same = ap (λ x. left + suffix_len is_open_space x) (sym two) ∙ t.same }

pub trimming_yes : (kind : Kind) (cs : List Cell) (from i to left : ℕ) → from ≤ i → i < to → i < length cs → is_sent kind (get_or cs i blank) ≡ true → is_open_space (get_or cs i blank) ≡ true
    → Trimming kind cs from (i + 1) to left → Trimming kind cs from i to (left + 1)
trimming_yes kind cs from i to left h l f e s t =
    let c = get_or cs i blank in
    let one : length (filter (is_sent kind) (between i to cs)) ≡ suc (length (filter (is_sent kind) (between (i + 1) to cs))) = ap (λ x. length (filter (is_sent kind) x)) (part_more cs i to l f) ∙ ap length (cond-true (is_sent kind c) (c ∷ filter (is_sent kind) (between (i + 1) to cs)) (filter (is_sent kind) (between (i + 1) to cs)) e) in
    let two : suffix_len is_open_space (filter (is_sent kind) (between from (i + 1) cs)) ≡ 1 + suffix_len is_open_space (filter (is_sent kind) (between from i cs)) =
    ap (suffix_len is_open_space) (kept_push kind cs from i h f ∙ ap (λ x. filter (is_sent kind) (between from i cs) ++ x) (cond-true (is_sent kind c) (c ∷ []) [] e))
    ∙ ending_push is_open_space (filter (is_sent kind) (between from i cs)) c ∙ cond-true (is_open_space c) (1 + suffix_len is_open_space (filter (is_sent kind) (between from i cs))) 0 s in
    record { low = h; room = omega (arith, t.room); behind = omega (arith, one, t.behind); same = omega (arith, two, t.same) }

-- a cell that is sent and no open space ends it
pub ending_stop : (kind : Kind) (cs : List Cell) (from i : ℕ) → from ≤ i → i < length cs → is_sent kind (get_or cs i blank) ≡ true → is_open_space (get_or cs i blank) ≡ false
    → suffix_len is_open_space (filter (is_sent kind) (between from (i + 1) cs)) ≡ 0
ending_stop kind cs from i h f e s =
    let c = get_or cs i blank in
    ap (suffix_len is_open_space) (kept_push kind cs from i h f ∙ ap (λ x. filter (is_sent kind) (between from i cs) ++ x) (cond-true (is_sent kind c) (c ∷ []) [] e))
    ∙ ending_push is_open_space (filter (is_sent kind) (between from i cs)) c ∙ cond-false (is_open_space c) (1 + suffix_len is_open_space (filter (is_sent kind) (between from i cs))) 0 s

split_part : (cs : List Cell) (from stop to : ℕ) → from ≤ stop → stop ≤ to → between from to cs ≡ between from stop cs ++ between stop to cs
split_part cs from stop to h l =
    let m : ℕ = stop - from in
    let x = between from to cs in
    let n : to - from ≡ m + (to - stop) = omega arith in
    let at : from + m ≡ stop = omega arith in
    sym (take-append-drop m x)
    ∙ ap (λ y. y ++ drop m x) (take-take m (to - from) (drop from cs) (omega arith))
    ∙ ap (λ y. between from stop cs ++ y) (ap (λ k. drop m (take k (drop from cs))) n ∙ drop-take m (to - stop) (drop from cs) ∙ ap (take (to - stop)) (drop-drop m from cs) ∙ ap (λ k. take (to - stop) (drop k cs)) at)

pub trimmed_whole : (kind : Kind) (cs : List Cell) (from stop to left : ℕ) → stop ≤ to → Trimming kind cs from stop to left → suffix_len is_open_space (filter (is_sent kind) (between from stop cs)) ≡ 0
    → (left ≡ suffix_len is_open_space (filter (is_sent kind) (between from to cs))) × (filter (is_sent kind) (between from stop cs) ≡ trimmed (filter (is_sent kind) (between from to cs)))
trimmed_whole kind cs from stop to left l t z =
    let a = filter (is_sent kind) (between from stop cs) in
    let b = filter (is_sent kind) (between stop to cs) in
    let k = filter (is_sent kind) (between from to cs) in
    let whole : k ≡ a ++ b = ap (filter (is_sent kind)) (split_part cs from stop to t.low l) ∙ filter-append (is_sent kind) (between from stop cs) (between stop to cs) in
    let n : left ≡ suffix_len is_open_space k = omega (arith, t.same) in
    let m : length a ≡ length k - suffix_len is_open_space k = omega (arith, ap length whole, length-append a b, t.behind) in
    (n, sym (take_at a b (length k - suffix_len is_open_space k) m) ∙ ap (take (length k - suffix_len is_open_space k)) (sym whole))

pub one_back : (kind : Kind) (cs : List Cell) (from p to left : ℕ) → from < p → Trimming kind cs from p to left → Trimming kind cs from (p - 1 + 1) to left
one_back kind cs from p to left h t = let e : p ≡ p - 1 + 1 = omega arith in subst (λ (k : ℕ). Trimming kind cs from k to left) e t

-- one place back in the search
pub start_at_back : (cs : List Cell) (p : ℕ) → 0 < p → ((get_or cs p blank).code ≡ RS → ⊥) → start_at cs (p - 1) ≡ start_at cs p
start_at_back cs zero h n = absurd (omega arith)
start_at_back cs (suc p) h n = let e : suc p - 1 ≡ p = omega arith in ap (start_at cs) e ∙ sym (cond-false (eqb (get_or cs (suc p) blank).code RS) _ _ (ne_eqb _ RS n))

pub start_at_here : (cs : List Cell) (p : ℕ) → (get_or cs p blank).code ≡ RS → start_at cs p ≡ p
start_at_here cs zero e = refl
start_at_here cs (suc p) e = cond-true (eqb (get_or cs (suc p) blank).code RS) _ _ (eq-eqb _ RS e)

-- rows of the stretch: a place of the row before lies before this row's end, and that at or before the cursor
pub row_after : (w s r : ℕ) → 0 < w → s / w + 1 ≡ r → s < r * w
row_after w s r h e =
    let q : (s / w + 1) * w ≡ s / w * w + w = add-mul (s / w) 1 w ∙ ap (λ x. s / w * w + x) (one-mul w) in
    let d : s / w * w + s % w ≡ s = div-add-mod' s w in
    let b = mod_below s w h in
    omega (arith, ap (λ x. x * w) e)

pub row_before : (w p r : ℕ) → 0 < w → r ≤ p / w → r * w ≤ p
row_before w p r h l = ⊎_elim (λ (b : p < r * w). absurd (let m = div_below p w r h b in omega arith)) (λ b. b) (cases_lt p (r * w))

pub row_next : (w r : ℕ) → 0 < w → r * w / w ≡ r
row_next w r h = mul-div_cancel r h

pub stretch_row : (kind : Kind) (v : View) (w s r : ℕ) (o : Sent) → w ≡ v.grid.columns → 0 < w → s / w + 1 ≡ r → r ≤ v.cursor / w
    → stretch kind v s o ≡ stretch kind v (r * w) (row_sends kind (between s (r * w) v.grid.cells) o)
stretch_row kind v w s r o e h f l =
    let cs = v.grid.cells in
    let p = v.cursor in
    let t : ℕ = r * w in
    let n : p / w - s / w ≡ suc (p / w - t / w) = omega (arith, row_next w r h) in
    ap (λ x. rows_sent kind x cs p (p / x - s / x) s o) (sym e)
    ∙ ap (λ k. rows_sent kind w cs p k s o) n
    ∙ ap (λ k. rows_sent kind w cs p (p / w - t / w) (k * w) (row_sends kind (between s (k * w) cs) o)) f
    ∙ ap (λ x. rows_sent kind x cs p (p / x - t / x) t (row_sends kind (between s t cs) o)) e

-- how many rows there are
pub row_small : (g : Grid) (w s : ℕ) → Sound g → w ≡ g.columns → s < size g → s / w < 24
row_small g w s ok e l =
    let n : size g ≡ g.rows * w = ok.filled ∙ ap (λ x. g.rows * x) (sym e) in
    let r : s / w < g.rows = div_below s w g.rows (omega (arith, ok.column_least)) (omega arith) in
    omega (arith, ok.row_most)
