-- What the receiver's record stands for.
use Rattle.std.specs.Prelude.{ℕ, List, [], take}
use Rattle.receiver.specs.declared.message.Kept.{Kept}
use Rattle.receiver.specs.declared.message.Phase.{Phase}
use Rattle.receiver.specs.declared.message.Phase.TheVariants.{Idle, Collecting, Awaiting, Finished}
use Rattle.receiver.specs.declared.message.Receiver.{Receiver}
use Rattle.receiver.specs.Receiving.{State, idle, collecting, awaiting}

-- the characters kept
abbrev pub kept_of : Kept → List ℕ
kept_of k = take k.len k.characters

abbrev pub phase_of : Phase → List ℕ → State
phase_of Idle kept = idle
phase_of Collecting kept = collecting kept
phase_of Awaiting kept = awaiting kept
phase_of Finished kept = idle

-- the state of a receiver
abbrev pub state_of : Receiver → State
state_of r = phase_of r.phase (kept_of r.kept)

abbrev pub finished_in : Phase → List ℕ → List ℕ
finished_in Idle kept = []
finished_in Collecting kept = []
finished_in Awaiting kept = []
finished_in Finished kept = kept

-- the message that the last octet finished, else nothing
abbrev pub message_of : Receiver → List ℕ
message_of r = finished_in r.phase (kept_of r.kept)
