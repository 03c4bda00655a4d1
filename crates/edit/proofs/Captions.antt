-- Keys leave every protected cell as it was, and make none.
use Rattle.std.proofs.Common.{◌≡◌, ℕ, zero, suc, ◌+◌, ◌-◌, ◌≤◌, true, false, ltb, List, [], ◌∷◌, ◌++◌, map, length, get_or, take, drop, set, replicate, Some, None, sym, refl, ap, ◌∙◌, subst, ⊎_elim, not-suc-le-zero, one-add, arith}
use Rattle.std.specs.List.{prefix_len, AllByRecursion}
use Rattle.std.proofs.lemmas.Bool.{cond-false, cond_both, not-true, cases_lt, false≢true}
use Rattle.std.proofs.lemmas.List.{map-append, map-set, get_or-map, set-get_or, take-append-drop, drop-drop, set_past, get_or-drop, take-take, length-take}
use Rattle.std.proofs.lemmas.List.Sums.{prefix_len-le-length}
use Rattle.screen.specs.Cells.{Cell, cell, blank}
use Rattle.screen.specs.Grid.{Grid, writable}
use Rattle.edit.specs.declared.edits.Reach.{Reach}
use Rattle.edit.specs.declared.edits.Change.TheVariants.{InsertRow, RemoveRow, EraseAll, EraseOpen, Erase, Delete, Insert}
use Rattle.edit.specs.declared.edits.Edit.{Edit}
use Rattle.edit.specs.declared.edits.Edit.TheVariants.{Move, Change}
use Rattle.edit.specs.View.{View, size}
use Rattle.edit.specs.Parts.{changed, redraw, erased, emptied, open_erased, deleted, pushed, is_open, room, run}
use Rattle.edit.specs.Edits.{edited}
use Rattle.edit.specs.Writing.{is_protected, open_from, first_open, any_open, stored}
use Rattle.edit.specs.Laws.{caption, captions, is_key}
use Rattle.edit.proofs.PartsDrawn.{length_erased, length_deleted, length_pushed}
use Rattle.edit.proofs.Keeps.{all_erased, all_deleted, all_pushed}

abbrev Open : Cell → Type 0
Open c = c.protected ≡ false

whole : (p n : ℕ) (cs : List Cell) → take p cs ++ (take n (drop p cs) ++ drop (p + n) cs) ≡ cs
whole p n cs = ap (λ x. take p cs ++ (take n (drop p cs) ++ x)) (sym (drop-drop n p cs)) ∙ ap (λ x. take p cs ++ x) (take-append-drop n (drop p cs)) ∙ take-append-drop p cs

-- a change of a part that keeps the captions among its cells
captions_changed : (p n : ℕ) (f : List Cell → List Cell) (cs : List Cell) → map caption (f (take n (drop p cs))) ≡ map caption (take n (drop p cs)) → map caption (changed p n f cs) ≡ map caption cs
captions_changed p n f cs h =
    let x = take n (drop p cs) in
    let y = drop (p + n) cs in
    map-append caption (take p cs) (f x ++ y)
    ∙ ap (λ z. map caption (take p cs) ++ z) (map-append caption (f x) y ∙ ap (λ z. z ++ map caption y) h ∙ sym (map-append caption x y))
    ∙ sym (map-append caption (take p cs) (x ++ y))
    ∙ ap (map caption) (whole p n cs)

none_open : (cs : List Cell) → AllByRecursion Open cs → map caption cs ≡ replicate (length cs) None
none_open [] a = refl
none_open (c ∷ cs) a =
    let e : caption c ≡ None = cond-false c.protected (Some c.code) None a.0 in
    let r : map caption cs ≡ replicate (length cs) None = none_open cs a.1 in
    cc

-- the run is open
leading_open : (n : ℕ) (cs : List Cell) → n ≤ prefix_len is_open cs → AllByRecursion Open (take n cs)
leading_open zero cs h = tt
leading_open (suc n) [] h = absurd (not-suc-le-zero h)
leading_open (suc n) (c ∷ cs) h =
    (cond_both (is_open c) (1 + prefix_len is_open cs) 0 (λ z. suc n ≤ z → AllByRecursion Open (c ∷ take n cs))
    (λ e l. (not-true c.protected e, leading_open n cs (omega arith)))
    (λ _ l. absurd (not-suc-le-zero l))) h

run_open : (r : Reach) (v : View) → AllByRecursion Open (take (run r v) (drop v.cursor v.grid.cells))
run_open r v =
    let cs = drop v.cursor v.grid.cells in
    let near = take (room r v) cs in
    let short : run r v ≤ room r v = omega (arith, prefix_len-le-length is_open near, length-take (room r v) cs) in
    subst (AllByRecursion Open) (take-take (run r v) (room r v) cs short) (leading_open (run r v) near (omega arith))

run_captions : (r : Reach) (v : View) (f : List Cell → List Cell) → ((cs : List Cell) → length (f cs) ≡ length cs) → ((cs : List Cell) → AllByRecursion Open cs → AllByRecursion Open (f cs)) → captions (redraw v.grid v.cursor (run r v) f) ≡ captions v.grid
run_captions r v f l o =
    let x = take (run r v) (drop v.cursor v.grid.cells) in
    captions_changed v.cursor (run r v) f v.grid.cells
    (none_open (f x) (o x (run_open r v)) ∙ ap (λ n. replicate n None) (l x) ∙ sym (none_open x (run_open r v)))

emptied_caption : (cs : List Cell) → map caption (open_erased cs) ≡ map caption cs
emptied_caption [] = refl
emptied_caption (c ∷ cs) =
    let e : caption (emptied c) ≡ caption c = cond_both c.protected c blank (λ z. caption z ≡ caption c) (λ _. refl) (λ h. sym (cond-false c.protected (Some c.code) None h)) in
    let r : map caption (open_erased cs) ≡ map caption cs = emptied_caption cs in
    cc

pub captions_edited : (e : Edit) (v : View) → is_key e ≡ true → captions (edited e v).grid ≡ captions v.grid
captions_edited (Move m) v k = refl
captions_edited (Change InsertRow) v k = absurd (false≢true k)
captions_edited (Change RemoveRow) v k = absurd (false≢true k)
captions_edited (Change EraseAll) v k = absurd (false≢true k)
captions_edited (Change EraseOpen) v k = captions_changed v.cursor (size v.grid - v.cursor) open_erased v.grid.cells (emptied_caption (take (size v.grid - v.cursor) (drop v.cursor v.grid.cells)))
captions_edited (Change (Erase r)) v k = run_captions r v erased length_erased (all_erased Open refl)
captions_edited (Change (Delete r)) v k = run_captions r v deleted length_deleted (all_deleted Open refl)
captions_edited (Change (Insert r)) v k = run_captions r v pushed length_pushed (all_pushed Open refl)

-- the first open cell is open
open_there : (cs : List Cell) → (get_or cs (prefix_len is_protected cs) blank).protected ≡ false
open_there [] = refl
open_there (c ∷ cs) = cond_both (is_protected c) (1 + prefix_len is_protected cs) 0 (λ z. (get_or (c ∷ cs) z blank).protected ≡ false) (λ _. ap (λ z. (get_or (c ∷ cs) z blank).protected) (one-add (prefix_len is_protected cs)) ∙ open_there cs) (λ e. e)

first_open_open : (g : Grid) (p : ℕ) → (get_or g.cells (first_open g p) blank).protected ≡ false
first_open_open g p =
    let there : (q : ℕ) → (get_or g.cells (open_from g q) blank).protected ≡ false = λ q. ap (λ c. c.protected) (sym (get_or-drop q g.cells (prefix_len is_protected (drop q g.cells)) blank)) ∙ open_there (drop q g.cells) in
    cond_both (ltb (open_from g p) (size g)) (open_from g p) (open_from g 0) (λ q. (get_or g.cells q blank).protected ≡ false) (λ _. there p) (λ _. there 0)

captions_set : (cs : List Cell) (p c : ℕ) → (get_or cs p blank).protected ≡ false → map caption (set cs p (cell c false)) ≡ map caption cs
captions_set cs p c h =
    ⊎_elim
    (λ l.
    let e : get_or (map caption cs) p None ≡ None = get_or-map caption cs p blank None l ∙ cond-false (get_or cs p blank).protected (Some (get_or cs p blank).code) None h in
    map-set caption cs p (cell c false) ∙ ap (set (map caption cs) p) (sym e) ∙ set-get_or (map caption cs) p None)
    (λ l. ap (map caption) (set_past cs p (cell c false) l))
    (cases_lt p (length cs))

pub captions_stored : (c : ℕ) (v : View) → any_open v.grid ≡ true → captions (stored c v).grid ≡ captions v.grid
captions_stored c v h =
    let p = first_open v.grid v.cursor in
    cond_both (writable v.grid p c) (set v.grid.cells p (cell c false)) v.grid.cells (λ x. map caption x ≡ map caption v.grid.cells)
    (λ _. captions_set v.grid.cells p c (first_open_open v.grid v.cursor)) (λ _. refl)
