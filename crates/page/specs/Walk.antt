-- What a reader has yet to read.
use Rattle.std.specs.Prelude.{◌≡◌, ℕ, List, drop, Ok, Err, Result, MatchResult}
use Rattle.page.specs.declared.refusal.Refusal.{Refusal}
use Rattle.page.specs.declared.reader.Reader.{Reader}
use Rattle.page.specs.Numbers.{Read, read, then}

abbrev pub rest_of : Reader → List ℕ
rest_of r = drop r.place r.octets.now

-- a reader that answers as the definition d does, and leaves what d leaves
abbrev pub Reads : {A : Type 0} → Result (Read A) Refusal → Result A Refusal → List ℕ → Type 0
Reads d r rest = MatchResult r (λ x. d ≡ Ok (read x rest)) (λ e. d ≡ Err e)

-- what a reading leaves, whatever it read
abbrev pub end_of : {A : Type 0} → Result (Read A) Refusal → Result (List ℕ) Refusal
end_of d = then d (λ r. Ok r.rest)
