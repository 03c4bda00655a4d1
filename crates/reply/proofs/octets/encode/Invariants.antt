use Rattle.std.proofs.Common.{◌≡◌}
use lib.Seq.{paste}
use Rattle.reply.specs.Octets.{octets}
use Rattle.reply.proofs.octets.encode.Given as goal

abbrev pub invariant-loop-i : goal.invariant-loop-i
invariant-loop-i g l = l.part ≡ paste l.initial.part 0 (octets g.L.Line.kind l.characters) l.i
