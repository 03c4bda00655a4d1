-- The numbers of the refusals of line and receiver.
use Rattle.std.specs.Prelude.{ℕ}
use Rattle.line.specs.declared.LineFault.TheVariants.{Parity}
use Rattle.receiver.specs.declared.fault.Cause.{Cause}
use Rattle.receiver.specs.declared.fault.Cause.TheVariants.{Line, Receiver}
use Rattle.receiver.specs.declared.fault.ReceiverFault.TheVariants.{TooLong, BlockCheck}

-- 7 bad parity, 8 too long, 9 wrong block check
abbrev pub number_of : Cause → ℕ
number_of (Line Parity) = 7
number_of (Receiver TooLong) = 8
number_of (Receiver BlockCheck) = 9
