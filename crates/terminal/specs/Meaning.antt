-- What a terminal in the code stands for.
use Rattle.std.specs.Prelude.{ℕ}
use Rattle.receiver.specs.Meaning as receiver
use Rattle.screen.specs.Grid.{Grid}
use Rattle.station.specs.Meaning.{station_of}
use Rattle.station.specs.Terminal.{State}
use Rattle.terminal.specs.declared.terminal.Terminal.{Terminal}

-- its state, by the numbers that its line wants and the grid that its screen shows
abbrev pub state_of : {L S : Type 0} → (L → ℕ) → (S → Grid) → Terminal L S → State
state_of wants grid t = record {
  wants = wants t.line;
  receiver = receiver.state_of t.receiver;
  station = station_of (grid t.screen.now) t.console;
}
