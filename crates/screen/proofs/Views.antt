-- Reads and writes of a screen that is seen through a map of places.
use Rattle.std.proofs.Common.{◌≡◌, ℕ, ◌*◌, ◌<◌, ◌≤◌, Bool, true, false, cond, ◌&&◌, ◌≢◌, ◌⊎◌, List, length, get_or, set, Ok, Err, Result, sym, refl, ap, ◌∙◌, ⊎_elim, arith}
use Rattle.std.proofs.lemmas.Bool.{ltb-true, ltb-false, lt-ltb, le-ltb, and_left, and_right, cond-false, cases_eq}
use Rattle.std.proofs.lemmas.List.{ext_get_or, length-set, get_or-set_same, get_or-set_other}
use Rattle.screen.specs.declared.refusal.Refusal.{Refusal}
use Rattle.screen.specs.declared.refusal.Refusal.TheVariants.{OffScreen}
use Rattle.screen.specs.Cells.{Cell, cell, blank, storable}
use Rattle.screen.specs.Grid.{Grid, with_cells, has_place, writable, written, copied}
use Rattle.screen.specs.Answers.{on_screen, done_if, parts, read_at}
use Rattle.screen.proofs.Answers.{on_ok, on_err}
use Rattle.screen.specs.View.{view, Into, length_table, get_or_table}

-- a place beyond n cells: a read and a write are refused, and nothing changes
off_place : (g : Grid) (p n : ℕ) → length g.cells ≡ n → n ≤ p → has_place g p ≡ false
off_place g p n e l = le-ltb p (length g.cells) (omega arith)

off_write : (g : Grid) (p c n : ℕ) → length g.cells ≡ n → n ≤ p → writable g p c ≡ false
off_write g p c n e l = and_left _ _ (off_place g p n e l)

pub read_off : (g : Grid) (p n : ℕ) → length g.cells ≡ n → n ≤ p → Err OffScreen ≡ read_at g p
read_off g p n e l = sym (ap (λ b. on_screen b (parts (get_or g.cells p blank))) (off_place g p n e l))

pub write_off : (g : Grid) (p c n : ℕ) → length g.cells ≡ n → n ≤ p → Err OffScreen ≡ done_if (writable g p c)
write_off g p c n e l = sym (ap done_if (off_write g p c n e l))

pub unwritten_off : (g : Grid) (p c : ℕ) (m : Bool) (n : ℕ) → length g.cells ≡ n → n ≤ p → g ≡ written g p c m
unwritten_off g p c m n e l = sym (ap (with_cells g) (cond-false (writable g p c) (set g.cells p (cell c m)) g.cells (off_write g p c n e l)))

-- a copy onto or from such a place
pub copy_off : (g : Grid) (to from n : ℕ) → length g.cells ≡ n → (n ≤ to) ⊎ (n ≤ from) → (has_place g from && has_place g to) ≡ false
copy_off g to from n e h = ⊎_elim (λ (l : n ≤ to). and_right _ _ (off_place g to n e l)) (λ (l : n ≤ from). and_left _ _ (off_place g from n e l)) h

pub uncopied : (g : Grid) (to from : ℕ) → (has_place g from && has_place g to) ≡ false → g ≡ copied g to from
uncopied g to from h = sym (ap (with_cells g) (cond-false (has_place g from && has_place g to) (set g.cells to (get_or g.cells from blank)) g.cells h))

view_place : (f : ℕ → ℕ) (h w : ℕ) (g : Grid) (p : ℕ) → Into f (h * w) (length g.cells) → p < h * w → has_place g (f p) ≡ has_place (view f h w g) p
view_place f h w g p i l =
    lt-ltb (f p) (length g.cells) (i.below p l) ∙ sym (lt-ltb p (length (view f h w g).cells) (omega (arith, length_table (h * w) (λ k. get_or g.cells (f k) blank))))

view_read : (f : ℕ → ℕ) (h w : ℕ) (g : Grid) (p : ℕ) → Into f (h * w) (length g.cells) → p < h * w → read_at g (f p) ≡ read_at (view f h w g) p
view_read f h w g p i l =
    let R : Bool → Cell → Result (ℕ × Bool) Refusal = λ b x. on_screen b (parts x) in
    ap (λ b. R b (get_or g.cells (f p) blank)) (view_place f h w g p i l)
    ∙ ap (R (has_place (view f h w g) p)) (sym (get_or_table (h * w) (λ k. get_or g.cells (f k) blank) p l))

view_writable : (f : ℕ → ℕ) (h w : ℕ) (g : Grid) (p c : ℕ) → Into f (h * w) (length g.cells) → p < h * w → writable g (f p) c ≡ writable (view f h w g) p c
view_writable f h w g p c i l = ap (λ b. b && storable c) (view_place f h w g p i l)

view_set : (f : ℕ → ℕ) (h w : ℕ) (g : Grid) (p : ℕ) (x : Cell) → Into f (h * w) (length g.cells) → p < h * w
    → (view f h w (with_cells g (set g.cells (f p) x))).cells ≡ set (view f h w g).cells p x
view_set f h w g p x i l =
    let cs = set g.cells (f p) x in
    let v = (view f h w g).cells in
    let t = (view f h w (with_cells g cs)).cells in
    let lv : length v ≡ h * w = length_table (h * w) (λ k. get_or g.cells (f k) blank) in
    let lt : length t ≡ h * w = length_table (h * w) (λ k. get_or cs (f k) blank) in
    ext_get_or blank t (set v p x) (lt ∙ sym (length-set v p x ∙ lv))
    (λ k b.
    let kn : k < h * w = omega arith in
    get_or_table (h * w) (λ k. get_or cs (f k) blank) k kn
    ∙ ⊎_elim
    (λ (e : k ≡ p).
    ap (λ j. get_or cs (f j) blank) e ∙ get_or-set_same g.cells (f p) x blank (i.below p l)
    ∙ sym (get_or-set_same v p x blank (omega arith)) ∙ ap (λ j. get_or (set v p x) j blank) (sym e))
    (λ (e : k ≢ p).
    get_or-set_other g.cells (f p) (f k) x blank (λ q. e (i.apart k p kn l q))
    ∙ sym (get_or_table (h * w) (λ k. get_or g.cells (f k) blank) k kn)
    ∙ sym (get_or-set_other v p k x blank e))
    (cases_eq k p))

view_cond : (f : ℕ → ℕ) (h w : ℕ) (g : Grid) (b : Bool) (xs : List Cell) → (view f h w (with_cells g (cond b xs g.cells))).cells ≡ cond b (view f h w (with_cells g xs)).cells (view f h w g).cells
view_cond f h w g true xs = refl
view_cond f h w g false xs = refl

view_written : (f : ℕ → ℕ) (h w : ℕ) (g : Grid) (p c : ℕ) (m : Bool) → Into f (h * w) (length g.cells) → p < h * w
    → view f h w (written g (f p) c m) ≡ written (view f h w g) p c m
view_written f h w g p c m i l =
    ap (with_cells (view f h w g))
    (view_cond f h w g (writable g (f p) c) (set g.cells (f p) (cell c m))
    ∙ ap (λ x. cond (writable g (f p) c) x (view f h w g).cells) (view_set f h w g p (cell c m) i l)
    ∙ ap (λ b. cond b (set (view f h w g).cells p (cell c m)) (view f h w g).cells) (view_writable f h w g p c i l))

-- a layer that looks a place up, and gets the place below or a refusal
pub found : (f : ℕ → ℕ) (h w : ℕ) (g : Grid) (p to : ℕ) → ◌≡◌ {A = Result ℕ Refusal} (Ok to) (on_screen (has_place (view f h w g) p) (f p)) → (p < h * w) × (to ≡ f p)
found f h w g p to e =
    let got = on_ok (has_place (view f h w g) p) (f p) to e in
    (omega (arith, ltb-true p (length (view f h w g).cells) got.0, length_table (h * w) (λ k. get_or g.cells (f k) blank)), got.1)

pub not_found : (v : Grid) (p x : ℕ) (e : Refusal) → ◌≡◌ {A = Result ℕ Refusal} (Err e) (on_screen (has_place v p) x) → (length v.cells ≤ p) × (e ≡ OffScreen)
not_found v p x e h =
    let q = on_err (has_place v p) x e h in
    (ltb-false p (length v.cells) q.0, q.1)

-- then a read or a write below is one of the layer
pub read_through : (f : ℕ → ℕ) (h w : ℕ) (g : Grid) (p to : ℕ) → Into f (h * w) (length g.cells) → ◌≡◌ {A = Result ℕ Refusal} (Ok to) (on_screen (has_place (view f h w g) p) (f p))
    → read_at g to ≡ read_at (view f h w g) p
read_through f h w g p to i e = let q = found f h w g p to e in ap (read_at g) q.1 ∙ view_read f h w g p i q.0

pub writable_through : (f : ℕ → ℕ) (h w : ℕ) (g : Grid) (p to c : ℕ) → Into f (h * w) (length g.cells) → ◌≡◌ {A = Result ℕ Refusal} (Ok to) (on_screen (has_place (view f h w g) p) (f p))
    → writable g to c ≡ writable (view f h w g) p c
writable_through f h w g p to c i e = let q = found f h w g p to e in ap (λ x. writable g x c) q.1 ∙ view_writable f h w g p c i q.0

pub written_through : (f : ℕ → ℕ) (h w : ℕ) (g : Grid) (p to c : ℕ) (m : Bool) → Into f (h * w) (length g.cells) → ◌≡◌ {A = Result ℕ Refusal} (Ok to) (on_screen (has_place (view f h w g) p) (f p))
    → view f h w (written g to c m) ≡ written (view f h w g) p c m
written_through f h w g p to c m i e = let q = found f h w g p to e in ap (λ x. view f h w (written g x c m)) q.1 ∙ view_written f h w g p c m i q.0
