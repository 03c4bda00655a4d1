-- The receiver's rules: what one character does.
use Rattle.std.specs.Prelude.{ℕ, cond, List, [], ◌∷◌, ◌++◌, length, Ok, Err, Result, ◌==◌, nat_le}
use Rattle.codes.specs.Ascii.{SOH, ETX}
use Rattle.codes.specs.declared.class.Class.{Class}
use Rattle.codes.specs.declared.class.Class.TheVariants.{Fill, Framing, Data, Control}
use Rattle.codes.specs.Classes.{class_of}
use Rattle.receiver.specs.declared.receive.Event.{Event}
use Rattle.receiver.specs.declared.receive.Event.TheVariants.{Nothing, Begun, Message}
use Rattle.receiver.specs.declared.fault.Fault.{Fault}
use Rattle.receiver.specs.declared.fault.Cause.{Cause}
use Rattle.receiver.specs.declared.fault.Cause.TheVariants.{Receiver}
use Rattle.receiver.specs.declared.fault.ReceiverFault.TheVariants.{TooLong, BlockCheck}
use Rattle.receiver.specs.Check.{block_check}

-- a receiver with the characters kept of an unfinished message
pub data State : Type 0 where
  idle : State
  collecting : List ℕ → State
  awaiting : List ℕ → State

-- how many characters are kept
abbrev pub count : State → ℕ
count idle = 0
count (collecting kept) = length kept
count (awaiting kept) = length kept

-- the state after a character, the answer, and the message that it finished, if any
pub record Next : Type 0 where
  pub state : State
  pub answer : Result Event Fault
  pub message : List ℕ

-- no message is finished
abbrev pub goes_on : State → Event → Next
goes_on s e = record { state = s; answer = Ok e; message = [] }

-- the message is dropped
abbrev pub refused : Cause → State → Next
refused cause s = record { state = idle; answer = Err (record { cause = cause; kept = count s }); message = [] }

-- a character that is no fill is kept, up to 6,000; ETX ends the message
abbrev pub keep : List ℕ → ℕ → Next
keep kept c =
    cond (nat_le 6000 (length kept)) (refused (Receiver TooLong) (collecting kept))
    (cond (c == ETX) (goes_on (awaiting (kept ++ (c ∷ []))) Nothing)
    (goes_on (collecting (kept ++ (c ∷ []))) Nothing))

abbrev pub collect : Class → List ℕ → ℕ → Next
collect Fill kept c = goes_on (collecting kept) Nothing
collect Framing kept c = keep kept c
collect Data kept c = keep kept c
collect Control kept c = keep kept c

-- the character after ETX is the block check, whatever it is
abbrev pub close : List ℕ → ℕ → Next
close kept c =
    cond (c == block_check kept) (record { state = idle; answer = Ok (Message (length kept)); message = kept })
    (refused (Receiver BlockCheck) (awaiting kept))

-- SOH begins a new message and drops an unfinished one
abbrev pub begin_or : ℕ → Next → Next
begin_or c n = cond (c == SOH) (goes_on (collecting []) Begun) n

-- one character
abbrev pub step : State → ℕ → Next
step idle c = begin_or c (goes_on idle Nothing)
step (collecting kept) c = begin_or c (collect (class_of c) kept c)
step (awaiting kept) c = close kept c
