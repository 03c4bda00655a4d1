-- The code's events, with an area of so many octets for a reply.
use Rattle.std.specs.Prelude.{ℕ}
use Rattle.history.specs.Trace.{Event, key, octet}
use Rattle.terminal.specs.declared.run.Event as code
use Rattle.terminal.specs.declared.run.Event.TheVariants.{Key, Octet}

abbrev pub event_of : ℕ → code.Event → Event
event_of room (Key c) = key c
event_of room (Octet o) = octet o room
