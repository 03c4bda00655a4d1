use Rattle.std.proofs.Common.{◌≡◌, drop, Some}
use Rattle.script.specs.Number.{number_in, digits_from}
use Rattle.script.proofs.number.number.Given as goal

abbrev pub invariant-loop-character : goal.invariant-loop-character
invariant-loop-character l = number_in l.word ≡ digits_from (Some l.sum) (drop l.character-index l.word)
