-- Edits and writing leave a screen with the cursor on it.
use Rattle.std.proofs.Common.{◌≡◌, ℕ, zero, suc, ◌+◌, ◌-◌, ◌*◌, ◌/◌, ◌%◌, ◌<◌, ◌≤◌, Bool, true, false, cond, ◌&&◌, ltb, List, [], ◌∷◌, ◌++◌, length, take, drop, set, replicate, sym, refl, ap, ◌∙◌, arith}
use Rattle.std.specs.List.{AllByRecursion}
use Rattle.std.proofs.lemmas.Bool.{cond_both, and_parts, ltb-true}
use Rattle.std.proofs.lemmas.List.{length-append, length-take, length-drop, length-replicate, length-set}
use Rattle.std.proofs.ByRecursion.{All-get_or, All-from_get_or, All-append, All-take, All-drop, All-set, All-push, All-map, All-weaker}
use Rattle.std.proofs.lemmas.Nat.{mod_below}
use Rattle.screen.specs.Cells.{Cell, cell, blank, storable}
use Rattle.screen.specs.Rows.{insert_row, remove_row}
use Rattle.screen.specs.Grid.{Grid, Sound, with_cells, has_row, writable, written}
use Rattle.screen.proofs.Cells.{space_storable}
use Rattle.screen.proofs.Rows.{rows_apart}
use Rattle.edit.specs.declared.edits.Motion.{Motion}
use Rattle.edit.specs.declared.edits.Motion.TheVariants.{Home, Up, Down, Left, Right, Return, Tab}
use Rattle.edit.specs.declared.edits.Change as change
use Rattle.edit.specs.declared.edits.Change.TheVariants.{InsertRow, RemoveRow, EraseAll, EraseOpen, Erase, Delete, Insert}
use Rattle.edit.specs.declared.edits.Edit.{Edit}
use Rattle.edit.specs.declared.edits.Edit.TheVariants.{Move, Change}
use Rattle.edit.specs.View.{View, view, size}
use Rattle.edit.specs.Moves.{moved, stop_from, addressed}
use Rattle.edit.specs.Parts.{changed, redraw, erased, emptied, open_erased, deleted, pushed, run}
use Rattle.edit.specs.Edits.{redrawn, edited}
use Rattle.edit.specs.Writing.{typed, open_from, first_open, any_open, stored}
use Rattle.edit.specs.Laws.{OnScreen}
use Rattle.edit.proofs.PartsDrawn.{length_erased, length_open_erased, length_deleted, length_pushed}

abbrev Storable : Cell → Type 0
Storable c = storable c.code ≡ true

all_blank : (P : Cell → Type 0) → P blank → (n : ℕ) → AllByRecursion P (replicate n blank)
all_blank P b zero = tt
all_blank P b (suc n) = (b, all_blank P b n)

-- what each change of a part keeps of its cells
pub all_erased : (P : Cell → Type 0) → P blank → (cs : List Cell) → AllByRecursion P cs → AllByRecursion P (erased cs)
all_erased P b cs a = all_blank P b (length cs)

pub all_deleted : (P : Cell → Type 0) → P blank → (cs : List Cell) → AllByRecursion P cs → AllByRecursion P (deleted cs)
all_deleted P b cs a = All-drop P 1 (cs ++ (blank ∷ [])) (All-push P cs blank a b)

pub all_pushed : (P : Cell → Type 0) → P blank → (cs : List Cell) → AllByRecursion P cs → AllByRecursion P (pushed cs)
all_pushed P b cs a = All-take P (length cs) (blank ∷ cs) (b, a)

all_open_erased : (cs : List Cell) → AllByRecursion Storable cs → AllByRecursion Storable (open_erased cs)
all_open_erased cs a =
    All-map Storable emptied cs (All-weaker Storable (λ c. Storable (emptied c)) (λ c h. cond_both c.protected c blank Storable (λ _. h) (λ _. space_storable)) cs a)

pub length_changed : (p n : ℕ) (f : List Cell → List Cell) (cs : List Cell) → ((xs : List Cell) → length (f xs) ≡ length xs) → length (changed p n f cs) ≡ length cs
length_changed p n f cs h =
    let e : length (f (take n (drop p cs))) ≡ length (take n (drop p cs)) = h (take n (drop p cs)) in
    simp (length-append, e, length-take, length-drop) (omega arith)

module _ (g : Grid) (s : Sound g) where
  all_stored : AllByRecursion Storable g.cells
  all_stored = All-from_get_or Storable g.cells blank s.stored

  -- other cells, as many and all of them storable
  with_sound : (cs : List Cell) → length cs ≡ size g → AllByRecursion Storable cs → Sound (with_cells g cs)
  with_sound cs l a = record {
    row_least = s.row_least;
    row_most = s.row_most;
    column_least = s.column_least;
    column_most = s.column_most;
    filled = l ∙ s.filled;
    stored = λ k h. All-get_or Storable cs k blank h a;
  }

  redraw_sound : (p n : ℕ) (f : List Cell → List Cell) → ((xs : List Cell) → length (f xs) ≡ length xs) → ((xs : List Cell) → AllByRecursion Storable xs → AllByRecursion Storable (f xs)) → Sound (redraw g p n f)
  redraw_sound p n f l a =
      with_sound (changed p n f g.cells) (length_changed p n f g.cells l)
      (All-append Storable (take p g.cells) _ (All-take Storable p g.cells all_stored)
      (All-append Storable (f (take n (drop p g.cells))) _ (a _ (All-take Storable n (drop p g.cells) (All-drop Storable p g.cells all_stored))) (All-drop Storable (p + n) g.cells all_stored)))

  unless_refused : (b : Bool) (cs : List Cell) → (b ≡ true → Sound (with_cells g cs)) → Sound (with_cells g (cond b cs g.cells))
  unless_refused b cs k = cond_both b cs g.cells (λ x. Sound (with_cells g x)) k (λ _. with_sound g.cells refl all_stored)

  row_fits : (r : ℕ) → has_row g r ≡ true → r * g.columns + g.columns ≤ size g
  row_fits r e = omega (arith, rows_apart r g.rows g.columns (ltb-true r g.rows e), s.filled)

  insert_sound : (r : ℕ) → has_row g r ≡ true → Sound (with_cells g (insert_row blank g.columns r g.cells))
  unfolding insert_row
  insert_sound r e =
      let f = row_fits r e in
      let p : ℕ = r * g.columns in
      with_sound (insert_row blank g.columns r g.cells) (simp (length-take, length-append, length-drop, length-replicate) (omega arith))
      (All-take Storable (size g) _
      (All-append Storable (take p g.cells) _ (All-take Storable p g.cells all_stored)
      (All-append Storable (replicate g.columns blank) _ (all_blank Storable space_storable g.columns) (All-drop Storable p g.cells all_stored))))

  remove_sound : (r : ℕ) → has_row g r ≡ true → Sound (with_cells g (remove_row blank g.columns r g.cells))
  unfolding remove_row
  remove_sound r e =
      let f = row_fits r e in
      let p : ℕ = r * g.columns in
      with_sound (remove_row blank g.columns r g.cells) (simp (length-append, length-take, length-drop, length-replicate) (omega arith))
      (All-append Storable (take p g.cells) _ (All-take Storable p g.cells all_stored)
      (All-append Storable (drop (p + g.columns) g.cells) _ (All-drop Storable (p + g.columns) g.cells all_stored) (all_blank Storable space_storable g.columns)))

  pub written_sound : (p c : ℕ) (m : Bool) → Sound (written g p c m)
  written_sound p c m =
      unless_refused (writable g p c) (set g.cells p (cell c m))
      (λ e. with_sound (set g.cells p (cell c m)) (length-set g.cells p (cell c m)) (All-set Storable g.cells p (cell c m) (and_parts _ _ e).1 all_stored))

redrawn_sound : (c : change.Change) (v : View) → Sound v.grid → Sound (redrawn c v)
redrawn_sound InsertRow v s = unless_refused v.grid s (has_row v.grid (v.cursor / v.grid.columns)) _ (insert_sound v.grid s (v.cursor / v.grid.columns))
redrawn_sound RemoveRow v s = unless_refused v.grid s (has_row v.grid (v.cursor / v.grid.columns)) _ (remove_sound v.grid s (v.cursor / v.grid.columns))
redrawn_sound EraseAll v s = redraw_sound v.grid s v.cursor (size v.grid - v.cursor) erased length_erased (all_erased Storable space_storable)
redrawn_sound EraseOpen v s = redraw_sound v.grid s v.cursor (size v.grid - v.cursor) open_erased length_open_erased all_open_erased
redrawn_sound (Erase r) v s = redraw_sound v.grid s v.cursor (run r v) erased length_erased (all_erased Storable space_storable)
redrawn_sound (Delete r) v s = redraw_sound v.grid s v.cursor (run r v) deleted length_deleted (all_deleted Storable space_storable)
redrawn_sound (Insert r) v s = redraw_sound v.grid s v.cursor (run r v) pushed length_pushed (all_pushed Storable space_storable)

-- every move is a place modulo the size
moved_on : (m : Motion) (v : View) → 0 < size v.grid → moved m v < size v.grid
moved_on Home v h = h
moved_on Up v h = mod_below _ (size v.grid) h
moved_on Down v h = mod_below _ (size v.grid) h
moved_on Left v h = mod_below _ (size v.grid) h
moved_on Right v h = mod_below _ (size v.grid) h
moved_on Return v h = mod_below _ (size v.grid) h
moved_on Tab v h =
    let P : ℕ → Type 0 = λ p. p < size v.grid in
    cond_both (ltb (stop_from v) (size v.grid)) ((stop_from v + 1) % size v.grid) 0 P (λ _. mod_below (stop_from v + 1) (size v.grid) h) (λ _. h)

-- two screens of one size have as many cells
same_size : (g h : Grid) → Sound g → Sound h → g.rows ≡ h.rows → g.columns ≡ h.columns → size g ≡ size h
same_size g h s t r c = s.filled ∙ ap (λ x. x * g.columns) r ∙ ap (λ x. h.rows * x) c ∙ sym t.filled

on_other : (g h : Grid) (p : ℕ) → Sound g → Sound h → g.rows ≡ h.rows → g.columns ≡ h.columns → p < size g → OnScreen (view h p)
on_other g h p s t r c l = record { sound = t; on = omega (arith, same_size g h s t r c) }

redrawn_on : (c : change.Change) (v : View) → OnScreen v → (redrawn c v).rows ≡ v.grid.rows → (redrawn c v).columns ≡ v.grid.columns → OnScreen (edited (Change c) v)
redrawn_on c v k r w = on_other v.grid (redrawn c v) v.cursor k.sound (redrawn_sound c v k.sound) (sym r) (sym w) k.on

pub edited_on : (e : Edit) (v : View) → OnScreen v → OnScreen (edited e v)
edited_on (Move m) v k = record { sound = k.sound; on = moved_on m v (omega (arith, k.on)) }
edited_on (Change InsertRow) v k = redrawn_on InsertRow v k refl refl
edited_on (Change RemoveRow) v k = redrawn_on RemoveRow v k refl refl
edited_on (Change EraseAll) v k = redrawn_on EraseAll v k refl refl
edited_on (Change EraseOpen) v k = redrawn_on EraseOpen v k refl refl
edited_on (Change (Erase r)) v k = redrawn_on (Erase r) v k refl refl
edited_on (Change (Delete r)) v k = redrawn_on (Delete r) v k refl refl
edited_on (Change (Insert r)) v k = redrawn_on (Insert r) v k refl refl

pub addressed_on : (y x : ℕ) (v : View) → OnScreen v → OnScreen (addressed y x v)
addressed_on y x v k =
    cond_both (ltb y v.grid.rows && ltb x v.grid.columns) (view v.grid (y * v.grid.columns + x)) v OnScreen
    (λ e.
    let q = and_parts _ _ e in
    let row = rows_apart y v.grid.rows v.grid.columns (ltb-true y v.grid.rows q.0) in
    record { sound = k.sound; on = omega (arith, row, ltb-true x v.grid.columns q.1, k.sound.filled) })
    (λ _. k)

pub typed_on : (m : Bool) (v : View) (c : ℕ) → OnScreen v → OnScreen (typed m v c)
typed_on m v c k =
    on_other v.grid (written v.grid v.cursor c m) ((v.cursor + 1) % size v.grid) k.sound (written_sound v.grid k.sound v.cursor c m) refl refl
    (mod_below (v.cursor + 1) (size v.grid) (omega (arith, k.on)))

first_open_on : (g : Grid) (p : ℕ) → any_open g ≡ true → first_open g p < size g
first_open_on g p h =
    let P : ℕ → Type 0 = λ q. q < size g in
    cond_both (ltb (open_from g p) (size g)) (open_from g p) (open_from g 0) P (λ e. ltb-true (open_from g p) (size g) e) (λ _. ltb-true (open_from g 0) (size g) h)

pub stored_on : (c : ℕ) (v : View) → any_open v.grid ≡ true → OnScreen v → OnScreen (stored c v)
stored_on c v h k =
    let p = first_open v.grid v.cursor in
    on_other v.grid (written v.grid p c false) (first_open v.grid ((p + 1) % size v.grid)) k.sound (written_sound v.grid k.sound p c false) refl refl
    (first_open_on v.grid ((p + 1) % size v.grid) h)
