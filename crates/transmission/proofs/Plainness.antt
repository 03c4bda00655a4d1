-- The characters of a transmission's text.
use Rattle.std.proofs.Common.{◌≡◌, ℕ, zero, suc, ◌+◌, ◌-◌, ◌*◌, ◌/◌, ◌%◌, ◌<◌, ◌≤◌, Bool, true, false, eqb, List, [], ◌∷◌, ◌++◌, length, get_or, drop, fold, filter, refl, arith}
use Rattle.std.specs.List.{suffix_len, between, AllByRecursion}
use Rattle.std.proofs.lemmas.Bool.{cond_both}
use Rattle.std.proofs.ByRecursion.{All-append, All-push, All-take, All-drop, all_kept_by, All-from_get_or}
use Rattle.std.proofs.lemmas.Nat.{mod_below}
use Rattle.codes.specs.Ascii.{VT, CR, SO, SI, ESC, RS, SPACE}
use Rattle.screen.specs.Cells.{Cell, blank, storable}
use Rattle.screen.proofs.Cells.{storable_seven, storable_text}
use Rattle.edit.specs.View.{View}
use Rattle.edit.specs.Laws.{OnScreen}
use Rattle.transmission.specs.declared.kind.Kind.{Kind}
use Rattle.transmission.specs.Text.{start_at, is_sent, is_open_space, Sent, turn, is_escaped, spelled, says, sends, trimmed, returned, row_sends, rows_sent, stretch, opening, taken}
use Rattle.transmission.specs.Laws.{Plain}
use Rattle.transmission.proofs.Parts.{row_small}

abbrev PlainCell : Cell → Type 0
PlainCell c = Plain c.code

abbrev PlainSent : Sent → Type 0
PlainSent o = AllByRecursion Plain o.characters

-- a code between 07 and 0F or between 16 and 7F
low : (c : ℕ) → 3 < c → c < 16 → Plain c
low c a b = record { seven = omega arith; no_stx = λ e. omega arith; no_etx = λ e. omega arith; no_dle = λ e. omega arith }

high : (c : ℕ) → 16 < c → c < 128 → Plain c
high c a b = record { seven = b; no_stx = λ e. omega arith; no_etx = λ e. omega arith; no_dle = λ e. omega arith }

stored_plain : (c : ℕ) → storable c ≡ true → Plain c
stored_plain c h = let q = storable_text c h in record { seven = storable_seven c h; no_stx = q.0; no_etx = q.1; no_dle = q.2 }

turn_plain : (a b : Bool) → AllByRecursion Plain (turn a b)
turn_plain false false = tt
turn_plain false true = (low SO (omega arith) (omega arith), tt)
turn_plain true false = (low SI (omega arith) (omega arith), tt)
turn_plain true true = tt

spelled_plain : (k : Kind) (c : ℕ) → Plain c → AllByRecursion Plain (spelled k c)
spelled_plain k c p = cond_both (is_escaped k c) (ESC ∷ c ∷ []) (c ∷ []) (AllByRecursion Plain) (λ _. (high ESC (omega arith) (omega arith), (p, tt))) (λ _. (p, tt))

says_plain : (k : Kind) (o : Sent) (c : Cell) → PlainCell c → PlainSent o → PlainSent (says k o c)
says_plain k o c p a =
    All-append Plain o.characters (turn o.last c.protected ++ spelled k c.code) a
    (All-append Plain (turn o.last c.protected) (spelled k c.code) (turn_plain o.last c.protected) (spelled_plain k c.code p))

cells_plain : (k : Kind) (cs : List Cell) (o : Sent) → AllByRecursion PlainCell cs → PlainSent o → PlainSent (fold (says k) o cs)
cells_plain k [] o p a = a
cells_plain k (c ∷ cs) o p a = cells_plain k cs (says k o c) p.1 (says_plain k o c p.0 a)

sends_plain : (k : Kind) (cs : List Cell) (o : Sent) → AllByRecursion PlainCell cs → PlainSent o → PlainSent (sends k cs o)
sends_plain k cs o p a = cells_plain k (filter (is_sent k) cs) o (all_kept_by (is_sent k) PlainCell cs p) a

returned_plain : (n : ℕ) (o : Sent) → PlainSent o → PlainSent (returned n o)
returned_plain zero o a = a
returned_plain (suc n) o a = All-push Plain o.characters CR a (low CR (omega arith) (omega arith))

row_plain : (k : Kind) (cs : List Cell) (o : Sent) → AllByRecursion PlainCell cs → PlainSent o → PlainSent (row_sends k cs o)
row_plain k cs o p a =
    let s = filter (is_sent k) cs in
    returned_plain (suffix_len is_open_space s) (fold (says k) o (trimmed s))
    (cells_plain k (trimmed s) o (All-take PlainCell (length s - suffix_len is_open_space s) s (all_kept_by (is_sent k) PlainCell cs p)) a)

between_plain : (i j : ℕ) (cs : List Cell) → AllByRecursion PlainCell cs → AllByRecursion PlainCell (between i j cs)
between_plain i j cs p = All-take PlainCell (j - i) (drop i cs) (All-drop PlainCell i cs p)

rows_plain : (k : Kind) (w : ℕ) (cs : List Cell) (p n s : ℕ) (o : Sent) → AllByRecursion PlainCell cs → PlainSent o → PlainSent (rows_sent k w cs p n s o)
rows_plain k w cs p zero s o c a = sends_plain k (between s (p + 1) cs) o (between_plain s (p + 1) cs c) a
rows_plain k w cs p (suc n) s o c a =
    let t : ℕ = (s / w + 1) * w in
    rows_plain k w cs p n t (row_sends k (between s t cs) o) c (row_plain k (between s t cs) o (between_plain s t cs c) a)

-- the stretch begins at or before the cursor
start_before : (cs : List Cell) (p : ℕ) → start_at cs p ≤ p
start_before cs zero = omega arith
start_before cs (suc p) =
    let P : ℕ → Type 0 = λ q. q ≤ suc p in
    cond_both (eqb (get_or cs (suc p) blank).code RS) (suc p) (start_at cs p) P (λ _. omega arith) (λ _. let h = start_before cs p in omega arith)

opening_plain : (v : View) (s : ℕ) → OnScreen v → s ≤ v.cursor → AllByRecursion Plain (opening v.grid.columns s)
opening_plain v s k l =
    let w = v.grid.columns in
    let y = row_small v.grid w s k.sound refl (omega (arith, k.on)) in
    let x = mod_below s w (omega (arith, k.sound.column_least)) in (
      high ESC (omega arith) (omega arith),
      (
        low VT (omega arith) (omega arith),
        (
          high (s / w + SPACE) (omega arith) (omega arith),
          (
            high (s % w + SPACE) (omega arith) (omega (arith, k.sound.column_most)),
            (low SI (omega arith) (omega arith), tt),
          ),
        ),
      ),
    )

pub taken_plain : (k : Kind) (v : View) → OnScreen v → AllByRecursion Plain (taken k v)
taken_plain k v on =
    let cs = v.grid.cells in
    let s = start_at cs v.cursor in
    let w = v.grid.columns in
    let o : Sent = record { characters = opening w s; last = false } in
    let cells : AllByRecursion PlainCell cs = All-from_get_or PlainCell cs blank (λ i h. stored_plain (get_or cs i blank).code (on.sound.stored i h)) in
    let sent = stretch k v s o in
    All-append Plain sent.characters (turn sent.last false)
    (rows_plain k w cs v.cursor (v.cursor / w - s / w) s o cells (opening_plain v s on (start_before cs v.cursor)))
    (turn_plain sent.last false)
