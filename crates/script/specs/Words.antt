-- Words, and what a script still holds.
use Rattle.std.specs.Prelude.{◌≡◌, ℕ, ◌+◌, ◌-◌, ◌^◌, min, cond, List, take, Option, Some, unwrap_or, option_map, IsNone, IsSomeAnd, MatchOption, MatchResult, Result}
use Rattle.script.specs.Hex.{octet_in}
use Rattle.script.specs.declared.word.Word.{Word}
use Rattle.script.specs.declared.words.Words.{Words}
use Rattle.script.specs.declared.words.Token.{Token}
use Rattle.script.specs.declared.words.Token.TheVariants.{Word as AWord, LineEnd, End}
use Rattle.script.specs.declared.words.Octets.{Octets}

-- the characters of a word
abbrev pub text_of : Word → List ℕ
text_of w = take w.len w.characters

-- at most so many tokens are still to come before the end
abbrev pub left : {R : Type 0} → Words R → ℕ
left w = cond w.again (w.input + 1) w.input

-- the octets of a line give at most so many items
abbrev pub octets_left : {R : Type 0} → Octets R → ℕ
octets_left s = unwrap_or (option_map (λ w. left w.now + 1) s.words) 0

-- an octet is what the last word names; after an error, as at the line's end, nothing more comes
abbrev pub YieldsOctet : {R E : Type 0} → Option (Result ℕ E) → Octets R → Type 0
YieldsOctet r t =
    MatchOption r (IsNone t.words)
    (λ item. MatchResult item (λ octet. IsSomeAnd t.words (λ w. octet_in (text_of w.now.word) ≡ Some octet)) (λ _. IsNone t.words))

-- the line that the next octet stands in, behind a token of a line; the count stops at its largest number
abbrev pub line_after : Token → ℕ → ℕ
line_after AWord n = n
line_after LineEnd n = min (n + 1) (2 ^ 64 - 1)
line_after End n = n
