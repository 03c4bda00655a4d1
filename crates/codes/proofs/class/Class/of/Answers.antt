-- The table of the classes, with a control past its end.
use Rattle.std.proofs.Common.{◌≡◌, ℕ, map, get_or, ◌∙◌, inl, inr, arith}
use Rattle.std.specs.List.{range_with_len}
use Rattle.std.proofs.lemmas.Bool.{cases_lt}
use Rattle.std.proofs.lemmas.Bool.Decides.{nat_tests}
use Rattle.std.proofs.lemmas.List.{get_or_past}
use Rattle.std.proofs.lemmas.List.FromFn.{get_or-map-range_with_len}
use Rattle.codes.specs.Classes.{class_of}
use Rattle.codes.specs.declared.class.Class.TheVariants.{Control}
use Rattle.codes.proofs.class.Class.of.Goals as goal

class_at : (c : ℕ) → get_or (map class_of (range_with_len 0 128)) c Control ≡ class_of c
unfolding class_of
class_at c = elim (cases_lt c 128) [
  | inl h ↦ get_or-map-range_with_len class_of 0 128 c c Control h (omega arith)
  | inr h ↦ get_or_past (map class_of (range_with_len 0 128)) c Control h ∙ grind (arith, nat_tests)
]

pub returns : goal.returns
unfolding class_of
returns c = let e = c.get.ensures.lookup.4 (omega arith) Control ∙ class_at c.args.code in cc
