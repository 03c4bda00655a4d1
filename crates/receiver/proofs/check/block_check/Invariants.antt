use Rattle.std.proofs.Common.{◌≡◌, drop}
use Rattle.std.specs.Prelude.{bit_xor}
use Rattle.receiver.specs.Check.{block_check}
use Rattle.receiver.proofs.check.block_check.Given as goal

-- the sum so far and the check of the rest
abbrev pub invariant-loop-character : goal.invariant-loop-character
invariant-loop-character l = bit_xor l.sum (block_check (drop l.character-index l.message)) ≡ block_check l.message
