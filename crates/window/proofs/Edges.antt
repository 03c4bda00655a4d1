-- Places through a window, and what a write leaves outside it.
use Rattle.std.proofs.Common.{◌≡◌, ℕ, ◌+◌, ◌*◌, ◌/◌, ◌%◌, ◌<◌, ◌≤◌, min, Bool, true, cond, ltb, ◌≢◌, List, length, get_or, set, Ok, Err, Result, sym, refl, ap, ◌∙◌, subst, ⊎_elim, arith}
use Rattle.std.proofs.lemmas.Nat.{div_below, mod_below, div-mul-add, mod-mul-add}
use Rattle.std.proofs.lemmas.Bool.{lt-ltb, le-ltb, cond-true, cases_eq, and_from, cond_both}
use Rattle.std.proofs.lemmas.List.{ext_get_or, length-set, get_or-set_other}
use Rattle.screen.specs.declared.refusal.Refusal.{Refusal}
use Rattle.screen.specs.declared.refusal.Refusal.TheVariants.{OffScreen}
use Rattle.screen.specs.Cells.{Cell, cell, blank}
use Rattle.screen.specs.Grid.{Grid, Sound, with_cells, has_place, writable, written}
use Rattle.screen.specs.Answers.{on_screen, place_at}
use Rattle.screen.specs.View.{table, Into, length_table, get_or_table}
use Rattle.screen.proofs.Views.{found}
use Rattle.window.specs.Part.{corner, inside, outside, windowed, window_into}

length_windowed : (h w : ℕ) (g : Grid) → length (windowed h w g).cells ≡ min h g.rows * min w g.columns
length_windowed h w g = length_table (min h g.rows * min w g.columns) (λ k. get_or g.cells (corner g.columns (min w g.columns) k) blank)

-- the row and the column in the window are the row and the column below
pub place_through : (h w : ℕ) (g : Grid) (p q : ℕ) → 1 ≤ w → Sound g → q ≡ min w g.columns → p < min h g.rows * q
    → place_at g (p / q) (p % q) ≡ on_screen (has_place (windowed h w g) p) (corner g.columns (min w g.columns) p)
unfolding corner
place_through h w g p q z s e l =
    let v : ℕ = min w g.columns in
    let on : p < min h g.rows * v = omega (arith, ap (λ x. min h g.rows * x) e) in
    let some : 0 < v = omega (arith, s.column_least) in
    let row : p / v < g.rows = omega (arith, div_below p v (min h g.rows) some on) in
    let column : p % v < g.columns = omega (arith, mod_below p v some) in
    ap (λ x. place_at g (p / x) (p % x)) e
    ∙ ap (λ b. on_screen b (p / v * g.columns + p % v)) (and_from _ _ (lt-ltb (p / v) g.rows row) (lt-ltb (p % v) g.columns column) ∙ sym (lt-ltb p (length (windowed h w g).cells) (omega (arith, length_windowed h w g))))

pub off_window : (h w : ℕ) (g : Grid) (p x n : ℕ) → n ≡ min h g.rows * min w g.columns → n ≤ p → Err OffScreen ≡ on_screen (has_place (windowed h w g) p) x
off_window h w g p x n e l = sym (ap (λ b. on_screen b x) (le-ltb p (length (windowed h w g).cells) (omega (arith, length_windowed h w g))))

-- the window's map of places, into the cells below
pub into : (h w : ℕ) (g : Grid) → 1 ≤ w → Sound g → Into (corner g.columns (min w g.columns)) (min h g.rows * min w g.columns) (length g.cells)
into h w g z s =
    let Q : ℕ → Type 0 = λ x. Into (corner g.columns (min w g.columns)) (min h g.rows * min w g.columns) x in
    subst Q (sym s.filled) (window_into h w g z s)

inside_corner : (W h w v p n : ℕ) → 1 ≤ v → v ≤ W → v ≤ w → n ≤ h → p < n * v → inside W h w (corner W v p) ≡ true
unfolding corner
inside_corner W h w v p n z vW vw nh l =
    let c : p % v < W = omega (arith, mod_below p v z) in
    let row : p / v < h = omega (arith, div_below p v n z l) in
    let column : p % v < w = omega (arith, mod_below p v z) in
    and_from _ _
    (ap (λ x. ltb x h) (div-mul-add (p / v) W (p % v) c) ∙ lt-ltb (p / v) h row)
    (ap (λ x. ltb x w) (mod-mul-add (p / v) W (p % v) c) ∙ lt-ltb (p % v) w column)

outside_set : (h w : ℕ) (g : Grid) (q : ℕ) (x : Cell) → inside g.columns h w q ≡ true → outside h w (with_cells g (set g.cells q x)) ≡ outside h w g
outside_set h w g q x i =
    let cs = g.cells in
    let ys = set cs q x in
    let W = g.columns in
    let F : List Cell → ℕ → Cell = λ zs k. cond (inside W h w k) blank (get_or zs k blank) in
    let n : length ys ≡ length cs = length-set cs q x in
    ap (with_cells g)
    (ext_get_or blank (table (length ys) (F ys)) (table (length cs) (F cs)) (length_table (length ys) (F ys) ∙ n ∙ sym (length_table (length cs) (F cs)))
    (λ k b.
    let ky : k < length ys = omega (arith, length_table (length ys) (F ys)) in
    get_or_table (length ys) (F ys) k ky
    ∙ ⊎_elim
    (λ (e : k ≡ q).
    let here : inside W h w k ≡ true = ap (inside W h w) e ∙ i in
    cond-true (inside W h w k) blank (get_or ys k blank) here ∙ sym (cond-true (inside W h w k) blank (get_or cs k blank) here))
    (λ (e : k ≢ q). ap (λ (y : Cell). cond (inside W h w k) blank y) (get_or-set_other cs q k x blank e))
    (cases_eq k q)
    ∙ sym (get_or_table (length cs) (F cs) k (omega arith))))

pub outside_written : (h w : ℕ) (g : Grid) (p to c : ℕ) (m : Bool) → 1 ≤ w → Sound g → ◌≡◌ {A = Result ℕ Refusal} (Ok to) (on_screen (has_place (windowed h w g) p) (corner g.columns (min w g.columns) p))
    → outside h w (written g to c m) ≡ outside h w g
outside_written h w g p to c m z s e =
    let f = found (corner g.columns (min w g.columns)) (min h g.rows) (min w g.columns) g p to e in
    let here : inside g.columns h w to ≡ true =
    ap (inside g.columns h w) f.1 ∙ inside_corner g.columns h w (min w g.columns) p (min h g.rows) (omega (arith, s.column_least)) (omega arith) (omega arith) (omega arith) f.0 in
    let P : List Cell → Type 0 = λ xs. outside h w (with_cells g xs) ≡ outside h w g in
    cond_both (writable g to c) (set g.cells to (cell c m)) g.cells P (λ _. outside_set h w g to (cell c m) here) (λ _. refl)
