-- What a turned order shows, and what a row cleared below makes of it.
use Rattle.std.proofs.Common.{◌≡◌, ℕ, ◌+◌, ◌-◌, ◌*◌, ◌/◌, ◌%◌, ◌<◌, ◌≤◌, eqb, ◌≢◌, List, length, get_or, sym, refl, ap, ◌∙◌, subst, ⊎_elim, add-mul, one-mul, arith}
use native.Mathlib.Nat.{add-div_right, add-mod_right}
use Rattle.std.proofs.lemmas.Bool.Decides.{nat_tests}
use Rattle.std.proofs.lemmas.Bool.{cases_order, cond-true, eq-eqb}
use Rattle.std.proofs.lemmas.List.{ext_get_or}
use Rattle.std.proofs.lemmas.Nat.{div-add-mod', div_below, le-div, mod_below}
use Rattle.screen.specs.Cells.{Cell, blank}
use Rattle.screen.specs.Rows.{clear_row, remove_row, insert_row}
use Rattle.screen.specs.Grid.{Grid, Sound, with_cells, cleared, removed, inserted}
use Rattle.screen.specs.View.{table, length_table, get_or_table}
use Rattle.screen.proofs.Rows.{rows_apart, clear_below, clear_within, clear_above, is_clear_row, is_remove_row, is_insert_row}
use Rattle.screen.proofs.Grids.{clears, removes, inserts}
use Rattle.turning.specs.Order.{under, turned, turned_by, Permutes, Moved, up, down, natural, own, fitted, fitted_permutes, one_place}

-- h rows of w cells, in the order given
abbrev seen : List ℕ → ℕ → ℕ → List Cell → List Cell
seen order h w cs = table (h * w) (λ k. get_or cs (under order w k) blank)

length_seen : (order : List ℕ) (h w : ℕ) (cs : List Cell) → length (seen order h w cs) ≡ h * w
length_seen order h w cs = length_table (h * w) (λ k. get_or cs (under order w k) blank)

get_or_seen : (order : List ℕ) (h w : ℕ) (cs : List Cell) (k : ℕ) → k < h * w → get_or (seen order h w cs) k blank ≡ get_or cs (under order w k) blank
get_or_seen order h w cs k l = get_or_table (h * w) (λ k. get_or cs (under order w k) blank) k l

-- a row that is cleared below: what it leaves of another row, and what it makes of itself
other_row : (cs : List Cell) (h w q f c : ℕ) → length cs ≡ h * w → f < h → c < w → q ≢ f → get_or (clear_row blank w f cs) (q * w + c) blank ≡ get_or cs (q * w + c) blank
other_row cs h w q f c n fh cw ne =
    let fit : f * w + w ≤ length cs = omega (arith, rows_apart f h w fh) in
    ⊎_elim
    (λ (e : q ≡ f). absurd (ne e))
    (⊎_elim
    (λ (l : q < f). clear_below blank w f cs (q * w + c) blank fit (omega (arith, rows_apart q f w l)))
    (λ (l : f < q). clear_above blank w f cs (q * w + c) blank fit (omega (arith, rows_apart f q w l))))
    (cases_order q f)

own_row : (cs : List Cell) (h w f c : ℕ) → length cs ≡ h * w → f < h → c < w → get_or (clear_row blank w f cs) (f * w + c) blank ≡ blank
own_row cs h w f c n fh cw = clear_within blank w f cs (f * w + c) blank (omega (arith, rows_apart f h w fh)) (omega arith) (omega arith)

-- what the place k shows, where its row came from q, and the row f was made blank
shows_other : (xs ys : List ℕ) (g : ℕ → ℕ) (h w : ℕ) (cs : List Cell) (k q f : ℕ) → Permutes xs h → Moved g xs h ys → 0 < w → length cs ≡ h * w
    → f < h → q < h → k < h * w → g (k / w) ≡ q → q ≢ f
    → get_or (seen ys h w (clear_row blank w (get_or xs f 0) cs)) k blank ≡ get_or cs (get_or xs q 0 * w + k % w) blank
unfolding under
shows_other xs ys g h w cs k q f p m z n fh qh kh gq ne =
    let row : get_or ys (k / w) 0 ≡ get_or xs q 0 = m.came (k / w) (div_below k w h z kh) ∙ ap (λ i. get_or xs i 0) gq in
    get_or_seen ys h w (clear_row blank w (get_or xs f 0) cs) k kh
    ∙ ap (λ i. get_or (clear_row blank w (get_or xs f 0) cs) (i * w + k % w) blank) row
    ∙ other_row cs h w (get_or xs q 0) (get_or xs f 0) (k % w) n (p.1 f fh) (mod_below k w z) (λ e. ne (one_place xs h q f p qh fh e))

shows_own : (xs ys : List ℕ) (g : ℕ → ℕ) (h w : ℕ) (cs : List Cell) (k f : ℕ) → Permutes xs h → Moved g xs h ys → 0 < w → length cs ≡ h * w
    → f < h → k < h * w → g (k / w) ≡ f
    → get_or (seen ys h w (clear_row blank w (get_or xs f 0) cs)) k blank ≡ blank
unfolding under
shows_own xs ys g h w cs k f p m z n fh kh gq =
    let row : get_or ys (k / w) 0 ≡ get_or xs f 0 = m.came (k / w) (div_below k w h z kh) ∙ ap (λ i. get_or xs i 0) gq in
    get_or_seen ys h w (clear_row blank w (get_or xs f 0) cs) k kh
    ∙ ap (λ i. get_or (clear_row blank w (get_or xs f 0) cs) (i * w + k % w) blank) row
    ∙ own_row cs h w (get_or xs f 0) (k % w) n (p.1 f fh) (mod_below k w z)

-- a place of the row i, seen from the list above
seen_at : (xs : List ℕ) (h w : ℕ) (cs : List Cell) (j q c : ℕ) → j < h * w → j / w ≡ q → j % w ≡ c → get_or cs (get_or xs q 0 * w + c) blank ≡ get_or (seen xs h w cs) j blank
unfolding under
seen_at xs h w cs j q c l a b =
    ap (λ i. get_or cs (get_or xs i 0 * w + c) blank) (sym a)
    ∙ ap (λ i. get_or cs (get_or xs (j / w) 0 * w + i) blank) (sym b)
    ∙ sym (get_or_seen xs h w cs j l)

seen_remove : (xs ys : List ℕ) (h w r : ℕ) (cs : List Cell) → Permutes xs h → Moved (up r h) xs h ys → 0 < w → length cs ≡ h * w → r < h
    → seen ys h w (clear_row blank w (get_or xs r 0) cs) ≡ remove_row blank w r (seen xs h w cs)
seen_remove xs ys h w r cs p m z n l =
    let len = length_seen xs h w cs in
    is_remove_row blank blank w r (seen xs h w cs) (seen ys h w (clear_row blank w (get_or xs r 0) cs))
    (omega (arith, rows_apart r h w l))
    (length_seen ys h w (clear_row blank w (get_or xs r 0) cs) ∙ sym len)
    (λ k b.
    let kh : k < h * w = omega (arith, rows_apart r h w l) in
    let i : k / w < r = div_below k w r z b in
    shows_other xs ys (up r h) h w cs k (k / w) r p m z n l (omega arith) kh (grind (arith, nat_tests)) (omega arith)
    ∙ seen_at xs h w cs k (k / w) (k % w) kh refl refl)
    (λ k a b.
    let up_to : k + w < h * w = omega arith in
    let kh : k < h * w = omega arith in
    let i : r ≤ k / w = le-div r k w z a in
    let d : (k + w) / w ≡ k / w + 1 = add-div_right k z in
    let j : k / w + 1 < h = omega (arith, div_below (k + w) w h z up_to) in
    shows_other xs ys (up r h) h w cs k (k / w + 1) r p m z n l j kh (grind (arith, nat_tests)) (omega arith)
    ∙ seen_at xs h w cs (k + w) (k / w + 1) (k % w) up_to d (add-mod_right k w))
    (λ k a b.
    let kh : k < h * w = omega arith in
    let i : k / w < h = div_below k w h z kh in
    let j : h ≤ k / w + 1 = omega (arith, le-div h (k + w) w z (omega arith), add-div_right k z) in
    shows_own xs ys (up r h) h w cs k r p m z n l kh (grind (arith, nat_tests)))

seen_insert : (xs ys : List ℕ) (h w r : ℕ) (cs : List Cell) → Permutes xs h → Moved (down r h) xs h ys → 0 < w → length cs ≡ h * w → r < h
    → seen ys h w (clear_row blank w (get_or xs (h - 1) 0) cs) ≡ insert_row blank w r (seen xs h w cs)
seen_insert xs ys h w r cs p m z n l =
    let len = length_seen xs h w cs in
    let lh : h - 1 < h = omega arith in
    let fits : r * w + w ≤ h * w = rows_apart r h w l in
    is_insert_row blank blank w r (seen xs h w cs) (seen ys h w (clear_row blank w (get_or xs (h - 1) 0) cs))
    (omega arith)
    (length_seen ys h w (clear_row blank w (get_or xs (h - 1) 0) cs) ∙ sym len)
    (λ k b.
    let kh : k < h * w = omega arith in
    let i : k / w < r = div_below k w r z b in
    shows_other xs ys (down r h) h w cs k (k / w) (h - 1) p m z n lh (omega arith) kh (grind (arith, nat_tests)) (omega arith)
    ∙ seen_at xs h w cs k (k / w) (k % w) kh refl refl)
    (λ k a b.
    let kh : k < h * w = omega arith in
    let i : r ≤ k / w = le-div r k w z a in
    let j : k / w < r + 1 = div_below k w (r + 1) z (omega (arith, add-mul r 1 w, one-mul w)) in
    shows_own xs ys (down r h) h w cs k (h - 1) p m z n lh kh (grind (arith, nat_tests)))
    (λ k a b.
    let kh : k < h * w = omega arith in
    let was : (k - w) + w ≡ k = omega arith in
    let d : k / w ≡ (k - w) / w + 1 = ap (λ x. x / w) (sym was) ∙ add-div_right (k - w) z in
    let e : (k - w) % w ≡ k % w = sym (add-mod_right (k - w) w) ∙ ap (λ x. x % w) was in
    let i : k / w < h = div_below k w h z kh in
    let j : r ≤ (k - w) / w = le-div r (k - w) w z (omega arith) in
    shows_other xs ys (down r h) h w cs k ((k - w) / w) (h - 1) p m z n lh (omega arith) kh (grind (arith, nat_tests)) (omega arith)
    ∙ seen_at xs h w cs (k - w) ((k - w) / w) (k % w) (omega arith) refl e)

-- an order that was not moved
unmoved : (xs : List ℕ) (h : ℕ) → Moved (λ i. i) xs h xs
unmoved xs h = record { long = refl; came = λ i a. refl }

seen_clear : (xs : List ℕ) (h w r : ℕ) (cs : List Cell) → Permutes xs h → 0 < w → length cs ≡ h * w → r < h
    → seen xs h w (clear_row blank w (get_or xs r 0) cs) ≡ clear_row blank w r (seen xs h w cs)
seen_clear xs h w r cs p z n l =
    let len = length_seen xs h w cs in
    let fits : r * w + w ≤ h * w = rows_apart r h w l in
    let still = unmoved xs h in
    is_clear_row blank blank w r (seen xs h w cs) (seen xs h w (clear_row blank w (get_or xs r 0) cs))
    (omega arith)
    (length_seen xs h w (clear_row blank w (get_or xs r 0) cs) ∙ sym len)
    (λ k b.
    let kh : k < h * w = omega arith in
    let i : k / w < r = div_below k w r z b in
    shows_other xs xs (λ i. i) h w cs k (k / w) r p still z n l (omega arith) kh refl (omega arith)
    ∙ seen_at xs h w cs k (k / w) (k % w) kh refl refl)
    (λ k a b.
    let kh : k < h * w = omega arith in
    let i : r ≤ k / w = le-div r k w z a in
    let j : k / w < r + 1 = div_below k w (r + 1) z (omega (arith, add-mul r 1 w, one-mul w)) in
    shows_own xs xs (λ i. i) h w cs k r p still z n l kh (omega arith))
    (λ k a b.
    let kh : k < h * w = omega arith in
    let i : r + 1 ≤ k / w = le-div (r + 1) k w z (omega (arith, add-mul r 1 w, one-mul w)) in
    shows_other xs xs (λ i. i) h w cs k (k / w) r p still z n l (div_below k w h z kh) kh refl (omega arith)
    ∙ seen_at xs h w cs k (k / w) (k % w) kh refl refl)

-- rows in their own order
pub turned_natural : (g : Grid) → Sound g → turned natural g ≡ g
unfolding under
turned_natural g s =
    let h = g.rows in
    let w = g.columns in
    let cs = g.cells in
    let z = s.column_least in
    ap (with_cells g)
    (ext_get_or blank (seen natural h w cs) cs (length_seen natural h w cs ∙ sym s.filled)
    (λ k b.
    let kh : k < h * w = omega (arith, length_seen natural h w cs) in
    get_or_seen natural h w cs k kh
    ∙ ap (λ i. get_or cs (i * w + k % w) blank) (own h (k / w) s.row_most (div_below k w h z kh))
    ∙ ap (λ i. get_or cs i blank) (div-add-mod' k w)))

-- the order of as many rows as it was kept for is the order itself
pub fitted_own : (o : List ℕ) (n h : ℕ) → n ≡ h → fitted o n h ≡ o
fitted_own o n h e = cond-true (eqb n h) o natural (eq-eqb n h e)

-- o is the order of k rows that a layer reads, which keeps an order `at` of n, over a screen g of q rows
pub record Reads (at : List ℕ) (n q : ℕ) (o : List ℕ) (k : ℕ) (g : Grid) : Type 0 where
  pub order : o ≡ fitted at n q
  pub count : k ≡ q
  pub rows : q ≡ g.rows

pub reads : (at o : List ℕ) (n q k : ℕ) (g : Grid) → o ≡ fitted at n q → k ≡ q → q ≡ g.rows → Reads at n q o k g
reads at o n q k g a b c = record { order = a; count = b; rows = c }

pub reads_fitted : (at o : List ℕ) (n q k : ℕ) (g : Grid) → Reads at n q o k g → o ≡ fitted at n g.rows
reads_fitted at o n q k g f = f.order ∙ ap (fitted at n) f.rows

pub reads_permutes : (at o : List ℕ) (n q k : ℕ) (g : Grid) → Permutes at n → Sound g → Reads at n q o k g → Permutes o k
reads_permutes at o n q k g p s f =
    let P : List ℕ → Type 0 = λ x. Permutes x k in
    let Q : ℕ → Type 0 = λ x. Permutes (fitted at n q) x in
    subst P (sym f.order) (subst Q (sym f.count) (fitted_permutes at n q p (omega (arith, f.rows, s.row_most))))

-- the row below of a row on the screen is on the screen below
pub row_below_on : (at o : List ℕ) (n q k : ℕ) (g : Grid) (r f : ℕ) → Permutes at n → Sound g → Reads at n q o k g → r < q → f ≡ get_or o r 0 → f < g.rows
row_below_on at o n q k g r f p s m l e = omega (arith, (reads_permutes at o n q k g p s m).1 r (omega (arith, m.count)), m.count, m.rows)

pub clear_through : (at o : List ℕ) (n q k : ℕ) (g : Grid) (r f : ℕ) → Permutes at n → Sound g → Reads at n q o k g → r < q → f ≡ get_or o r 0
    → turned_by at n (cleared g f) ≡ cleared (turned_by at n g) r
clear_through at o n q k g r f p s m l e =
    let x = fitted at n g.rows in
    let fx : f ≡ get_or x r 0 = e ∙ ap (λ y. get_or y r 0) (reads_fitted at o n q k g m) in
    let on : r < g.rows = omega (arith, m.rows) in
    ap (turned_by at n) (clears g f (row_below_on at o n q k g r f p s m l e))
    ∙ ap (λ y. with_cells g (seen x g.rows g.columns (clear_row blank g.columns y g.cells))) fx
    ∙ ap (with_cells g) (seen_clear x g.rows g.columns r g.cells (fitted_permutes at n g.rows p s.row_most) s.column_least s.filled on)
    ∙ sym (clears (turned_by at n g) r on)

pub remove_through : (at o ys : List ℕ) (n q k i : ℕ) (g : Grid) (r f : ℕ) → Permutes at n → Sound g → Reads at n q o k g → r < q → f ≡ get_or o r 0
    → Moved (up r k) o k ys → i ≡ k
    → turned_by ys i (cleared g f) ≡ removed (turned_by at n g) r
remove_through at o ys n q k i g r f p s m l e u c =
    let x = fitted at n g.rows in
    let fx : f ≡ get_or x r 0 = e ∙ ap (λ y. get_or y r 0) (reads_fitted at o n q k g m) in
    let on : r < g.rows = omega (arith, m.rows) in
    let kg : k ≡ g.rows = m.count ∙ m.rows in
    let P : List ℕ → Type 0 = λ y. Moved (up r g.rows) y g.rows ys in
    let Q : ℕ → Type 0 = λ y. Moved (up r y) o y ys in
    let v : Moved (up r g.rows) x g.rows ys = subst P (reads_fitted at o n q k g m) (subst Q kg u) in
    ap (turned_by ys i) (clears g f (row_below_on at o n q k g r f p s m l e))
    ∙ ap (λ y. turned y (with_cells g (clear_row blank g.columns f g.cells))) (fitted_own ys i g.rows (c ∙ kg))
    ∙ ap (λ y. with_cells g (seen ys g.rows g.columns (clear_row blank g.columns y g.cells))) fx
    ∙ ap (with_cells g) (seen_remove x ys g.rows g.columns r g.cells (fitted_permutes at n g.rows p s.row_most) v s.column_least s.filled on)
    ∙ sym (removes (turned_by at n g) r on)

pub insert_through : (at o ys : List ℕ) (n q k i : ℕ) (g : Grid) (r f : ℕ) → Permutes at n → Sound g → Reads at n q o k g → r < q → f ≡ get_or o (q - 1) 0
    → Moved (down r k) o k ys → i ≡ k
    → turned_by ys i (cleared g f) ≡ inserted (turned_by at n g) r
insert_through at o ys n q k i g r f p s m l e u c =
    let x = fitted at n g.rows in
    let fx : f ≡ get_or x (g.rows - 1) 0 = e ∙ ap (λ y. get_or y (q - 1) 0) (reads_fitted at o n q k g m) ∙ ap (λ y. get_or x (y - 1) 0) m.rows in
    let on : r < g.rows = omega (arith, m.rows) in
    let kg : k ≡ g.rows = m.count ∙ m.rows in
    let P : List ℕ → Type 0 = λ y. Moved (down r g.rows) y g.rows ys in
    let Q : ℕ → Type 0 = λ y. Moved (down r y) o y ys in
    let v : Moved (down r g.rows) x g.rows ys = subst P (reads_fitted at o n q k g m) (subst Q kg u) in
    ap (turned_by ys i) (clears g f (row_below_on at o n q k g (q - 1) f p s m (omega arith) e))
    ∙ ap (λ y. turned y (with_cells g (clear_row blank g.columns f g.cells))) (fitted_own ys i g.rows (c ∙ kg))
    ∙ ap (λ y. with_cells g (seen ys g.rows g.columns (clear_row blank g.columns y g.cells))) fx
    ∙ ap (with_cells g) (seen_insert x ys g.rows g.columns r g.cells (fitted_permutes at n g.rows p s.row_most) v s.column_least s.filled on)
    ∙ sym (inserts (turned_by at n g) r on)
