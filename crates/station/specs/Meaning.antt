-- What a console in the code stands for.
use Rattle.host.specs.Carrying.{held_of}
use Rattle.screen.specs.Grid.{Grid}
use Rattle.edit.specs.View.{at}
use Rattle.station.specs.declared.state.Console as code
use Rattle.console.specs.Console.{Console}
use Rattle.station.specs.Station.{Station}

abbrev pub console_of : code.Console → Console
console_of c = record {
  locked = c.host.locked;
  light = c.host.light;
  held = held_of c.host;
  call = c.call;
  outstanding = c.outstanding;
  due = c.due;
}

-- a console at a screen that shows g; a cursor off the screen counts as a place going round
abbrev pub station_of : Grid → code.Console → Station
station_of g c = record { view = at g c.host.cursor; console = console_of c }
