use Rattle.std.proofs.Common.{eqb, sym, ap, ◌∙◌}
use Rattle.std.specs.Int.{w8}
use Rattle.std.proofs.lemmas.Nat.Bits.{bit_at_set_same, bit_at_set_other, bit_at_clear_same, bit_at_clear_other}
use Rattle.stores.specs.Marks.{bit_of}
use Rattle.stores.proofs.marks.with_mark.Goals as goal

pub returns-then-mark : goal.returns-then-mark
unfolding bit_of
returns-then-mark c = record {
  same = ap (λ x. eqb x 1) (bit_at_set_same w8 c.args.old c.args.at c.requires) ∙ sym c.if-mark.true;
  others = λ j b ne. ap (λ x. eqb x 1) (bit_at_set_other w8 c.args.old c.args.at c.requires j ne);
}

pub returns-else-mark : goal.returns-else-mark
unfolding bit_of
returns-else-mark c = record {
  same = ap (λ x. eqb x 1) (bit_at_clear_same w8 c.args.old c.args.at c.requires) ∙ sym c.if-mark.false;
  others = λ j b ne. ap (λ x. eqb x 1) (bit_at_clear_other w8 c.args.old c.args.at c.requires j b ne);
}
