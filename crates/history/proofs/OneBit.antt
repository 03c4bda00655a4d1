-- A message with one bit changed completes no message at line and receiver.
use Rattle.std.proofs.Common.{◌≡◌, ℕ, ◌%◌, ◌^◌, ◌<◌, true, false, eqb, leb, List, [], ◌∷◌, ◌++◌, length, Some, None, Ok, Err, Option, Result, sym, refl, ap, subst₂, mod-eq_of_lt, arith}
use lib.Bits.{bit_xor}
use Rattle.std.specs.List.{AllByRecursion}
use Rattle.std.proofs.lemmas.Bool.{cond_both, both_ways, true≢false}
use Rattle.codes.specs.Ascii.{SOH, ETX}
use Rattle.codes.specs.declared.class.Class.{Class}
use Rattle.codes.specs.declared.class.Class.TheVariants.{Fill, Framing, Data, Control}
use Rattle.codes.specs.Classes.{class_of}
use Rattle.line.specs.declared.LineFault.{LineFault}
use Rattle.line.specs.declared.LineFault.TheVariants.{Parity}
use Rattle.line.specs.Kind.{Kind, GivesBack, DetectsOneBit, InRange}
use Rattle.line.specs.Octet.{wanted, given}
use Rattle.receiver.specs.declared.receive.Event.{Event}
use Rattle.receiver.specs.declared.receive.Event.TheVariants.{Nothing, Begun, Message}
use Rattle.receiver.specs.declared.fault.Fault.{Fault}
use Rattle.receiver.specs.Receiving.{State, idle, collecting, awaiting, Next, keep, collect, step}
use Rattle.receiver.specs.Hearing.{hear_given, hear}
use Rattle.reply.specs.Octets.{octets}
use Rattle.history.specs.Words.{Inner, Damaged, is_awaiting}

-- line and receiver
pub record Front : Type 0 where
  pub wants : ℕ
  pub receiver : State

-- the invariant: while the line is out of step, the receiver is idle
abbrev pub IdleOutOfStep : Front → Type 0
IdleOutOfStep f = eqb f.wants 0 ≡ false → f.receiver ≡ idle

abbrev pub CompletesNone : Result Event Fault → Type 0
CompletesNone (Ok Nothing) = Unit {0}
CompletesNone (Ok Begun) = Unit {0}
CompletesNone (Ok (Message n)) = ⊥
CompletesNone (Err f) = Unit {0}

-- after the character c no message is complete, and a check is awaited only if c is ETX
abbrev Unfinished : ℕ → Next → Type 0
Unfinished c n = CompletesNone n.answer × (eqb c ETX ≡ false → is_awaiting n.state ≡ false)

keep_unfinished : (kept : List ℕ) (c : ℕ) → Unfinished c (keep kept c)
keep_unfinished kept c =
    cond_both (leb 6000 (length kept)) _ _ (Unfinished c) (λ _. (tt, λ _. refl))
    (λ _. cond_both (eqb c ETX) _ _ (Unfinished c) (λ e. (tt, λ n. absurd (both_ways (eqb c ETX) n e))) (λ _. (tt, λ _. refl)))

collect_unfinished : (cl : Class) (kept : List ℕ) (c : ℕ) → Unfinished c (collect cl kept c)
collect_unfinished Fill kept c = (tt, λ _. refl)
collect_unfinished Framing kept c = keep_unfinished kept c
collect_unfinished Data kept c = keep_unfinished kept c
collect_unfinished Control kept c = keep_unfinished kept c

step_unfinished : (r : State) (c : ℕ) → is_awaiting r ≡ false → Unfinished c (step r c)
step_unfinished idle c a = cond_both (eqb c SOH) _ _ (Unfinished c) (λ _. (tt, λ _. refl)) (λ _. (tt, λ _. refl))
step_unfinished (collecting kept) c a =
    cond_both (eqb c SOH) _ _ (Unfinished c) (λ _. (tt, λ _. refl)) (λ _. collect_unfinished (class_of c) kept c)
step_unfinished (awaiting kept) c a = absurd (true≢false a)

-- some octets, and the same with one bit of one of them changed
data OneBitChanged : List ℕ → List ℕ → Type 0 where
  here : {o : ℕ} {os : List ℕ} (b : ℕ) → b < 8 → OneBitChanged (o ∷ os) (bit_xor o (2 ^ b) ∷ os)
  later : {o : ℕ} {os ps : List ℕ} → OneBitChanged os ps → OneBitChanged (o ∷ os) (o ∷ ps)

one_bit_changed : (front : List ℕ) (hit : ℕ) (back : List ℕ) (b : ℕ) → b < 8
    → OneBitChanged (front ++ (hit ∷ back)) (front ++ (bit_xor hit (2 ^ b) ∷ back))
one_bit_changed [] hit back b l = here b l
one_bit_changed (o ∷ front) hit back b l = later (one_bit_changed front hit back b l)

module _ (k : Kind) where
  -- what line and receiver make of an octet
  abbrev pub next : Front → ℕ → Next
  next f o = hear k f.wants f.receiver o

  abbrev pub heard : Front → ℕ → Front
  heard f o = record { wants = wanted k f.wants o; receiver = (next f o).state }

  abbrev pub heard_all : Front → List ℕ → Front
  heard_all f [] = f
  heard_all f (o ∷ os) = heard_all (heard f o) os

  -- none of the octets completes a message
  abbrev pub NoneCompleted : Front → List ℕ → Type 0
  NoneCompleted f [] = Unit {0}
  NoneCompleted f (o ∷ os) = CompletesNone (next f o).answer × NoneCompleted (heard f o) os

  -- an octet in step gives its character, or is bad; out of step it gives nothing
  given_cases : (w o : ℕ) (P : Result (Option ℕ) LineFault → Type 0)
      → (eqb w 0 ≡ true → k.good o ≡ true → P (Ok (Some (k.character o)))) → (k.good o ≡ false → P (Err Parity))
      → (eqb w 0 ≡ false → P (Ok None)) → P (given k w o)
  given_cases w o P good bad out = cond_both (eqb w 0) _ _ P (λ i. cond_both (k.good o) _ _ P (good i) bad) out

  -- while no check is awaited, no octet completes a message
  heard_unfinished : (f : Front) (o : ℕ) → is_awaiting f.receiver ≡ false → Unfinished (k.character o) (next f o)
  heard_unfinished f o a =
      given_cases f.wants o (λ g. Unfinished (k.character o) (hear_given g f.receiver))
      (λ _ _. step_unfinished f.receiver (k.character o) a) (λ _. (tt, λ _. refl)) (λ _. (tt, λ _. a))

  -- an idle receiver stays idle until SOH
  heard_idle : (f : Front) (o : ℕ) → eqb (k.character o) SOH ≡ false → f.receiver ≡ idle → (heard f o).receiver ≡ idle
  heard_idle f o n i =
      given_cases f.wants o (λ g. (hear_given g f.receiver).state ≡ idle)
      (λ _ _. rw (i, n)) (λ _. refl) (λ _. i)

  -- the invariant is kept
  pub heard_keeps : (f : Front) (o : ℕ) → IdleOutOfStep f → IdleOutOfStep (heard f o)
  heard_keeps f o i out =
      given_cases f.wants o (λ g. (hear_given g f.receiver).state ≡ idle)
      (λ z g. absurd (true≢false (rw (z, g) at out))) (λ _. refl) i

  -- a bad octet completes no message and leaves the receiver idle
  heard_bad : (f : Front) (o : ℕ) → k.good o ≡ false → IdleOutOfStep f → CompletesNone (next f o).answer × ((heard f o).receiver ≡ idle)
  heard_bad f o b i =
      given_cases f.wants o (λ g. CompletesNone (hear_given g f.receiver).answer × ((hear_given g f.receiver).state ≡ idle))
      (λ _ g. absurd (both_ways (k.good o) b g)) (λ _. (tt, refl)) (λ z. (tt, i z))

  -- from idle, none of the octets completes a message
  abbrev IgnoredFromIdle : List ℕ → Type 0
  IgnoredFromIdle os = (f : Front) → f.receiver ≡ idle → NoneCompleted f os

  -- with one bit changed, none of the octets completes a message, unless a check was awaited before them
  abbrev IgnoredIfDamaged : List ℕ → Type 0
  IgnoredIfDamaged os =
      (ps : List ℕ) → OneBitChanged os ps → (f : Front) → IdleOutOfStep f → is_awaiting f.receiver ≡ false → NoneCompleted f ps

  -- the octet that is sent for a character
  abbrev sent : ℕ → ℕ
  sent c = k.octet (c % 128)

  module _ (back : GivesBack k) (detects : DetectsOneBit k) (range : InRange k) where
    -- the octet of a character other than d gives a character other than d
    gives_other : (c d : ℕ) → c < 128 → eqb c d ≡ false → eqb (k.character (sent c)) d ≡ false
    gives_other c d l n = cc (mod-eq_of_lt l, (back c l).1)

    -- the changed octet leaves the receiver idle, and those behind it are ignored
    changed_ignored : (c : ℕ) (os : List ℕ) → IgnoredFromIdle os → (b : ℕ) → b < 8 → (f : Front) → IdleOutOfStep f
        → NoneCompleted f (bit_xor (sent c) (2 ^ b) ∷ os)
    changed_ignored c os rest b l f i =
        let low : c % 128 < 128 = omega arith in
        let bad = detects (sent c) b (range.0 (c % 128) low) l (back (c % 128) low).0 in
        let x = heard_bad f (bit_xor (sent c) (2 ^ b)) bad i in
        (x.0, rest (heard f (bit_xor (sent c) (2 ^ b))) x.1)

    check_ignored : (s : ℕ) → IgnoredFromIdle (sent s ∷ [])
    check_ignored s f i = ((heard_unfinished f (sent s) (ap is_awaiting i)).0, tt)

    -- one octet more in front, not that of SOH
    more_ignored : (c : ℕ) (os : List ℕ) → eqb (k.character (sent c)) SOH ≡ false → IgnoredFromIdle os → IgnoredFromIdle (sent c ∷ os)
    more_ignored c os n rest f i =
        ((heard_unfinished f (sent c) (ap is_awaiting i)).0, rest (heard f (sent c)) (heard_idle f (sent c) n i))

    -- what follows SOH in a message whose check is s
    rest_ignored : (s : ℕ) (body : List ℕ) → AllByRecursion Inner body → IgnoredFromIdle (octets k (body ++ (ETX ∷ s ∷ [])))
    rest_ignored s [] a = more_ignored ETX (sent s ∷ []) (gives_other ETX SOH (omega arith) refl) (check_ignored s)
    rest_ignored s (c ∷ body) a = more_ignored c _ (gives_other c SOH a.0.seven a.0.no_SOH) (rest_ignored s body a.1)

    -- one octet more in front, not that of ETX
    more_damaged : (c : ℕ) (os : List ℕ) → eqb (k.character (sent c)) ETX ≡ false → IgnoredFromIdle os → IgnoredIfDamaged os
        → IgnoredIfDamaged (sent c ∷ os)
    more_damaged c os n ignored rest _ (here b l) f i a = changed_ignored c os ignored b l f i
    more_damaged c os n ignored rest _ (later d) f i a =
        let x = heard_unfinished f (sent c) a in
        (x.0, rest _ d (heard f (sent c)) (heard_keeps f (sent c) i) (x.1 n))

    -- ETX and the check
    end_damaged : (s : ℕ) → IgnoredIfDamaged (sent ETX ∷ sent s ∷ [])
    end_damaged s _ (here b l) f i a = changed_ignored ETX (sent s ∷ []) (check_ignored s) b l f i
    end_damaged s _ (later (here b l)) f i a =
        ((heard_unfinished f (sent ETX) a).0, changed_ignored s [] (λ _ _. tt) b l (heard f (sent ETX)) (heard_keeps f (sent ETX) i))
    end_damaged s _ (later (later d)) f i a = elim d [ ]

    rest_damaged : (s : ℕ) (body : List ℕ) → AllByRecursion Inner body → IgnoredIfDamaged (octets k (body ++ (ETX ∷ s ∷ [])))
    rest_damaged s [] a = end_damaged s
    rest_damaged s (c ∷ body) a =
        more_damaged c _ (gives_other c ETX a.0.seven a.0.no_ETX) (rest_ignored s body a.1) (rest_damaged s body a.1)

    pub damaged_completes_none : (os : List ℕ) → Damaged k os → (f : Front) → IdleOutOfStep f → is_awaiting f.receiver ≡ false
        → NoneCompleted f os
    damaged_completes_none os d =
        more_damaged SOH _ (gives_other SOH ETX (omega arith) refl) (rest_ignored _ d.body d.inner) (rest_damaged _ d.body d.inner) os
        (subst₂ OneBitChanged (sym d.sent) (sym d.damaged) (one_bit_changed d.front d.hit d.back d.bit d.in_octet))
