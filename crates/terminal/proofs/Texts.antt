-- What a host text leaves of a station, part by part.
use Rattle.std.proofs.Common.{◌≡◌, ℕ, Bool, true, false, ◌||◌, List, Option}
use Rattle.text.specs.Steps.{Step}
use Rattle.edit.specs.View.{View}
use Rattle.host.specs.Drawing.{drawn_all}
use Rattle.host.specs.Carrying.{is_lock, is_light, some_step, taking}
use Rattle.std.specs.Prelude.{is_some}
use Rattle.std.specs.Option.{option_or}
use Rattle.console.specs.Console.{Console}
use Rattle.station.specs.Station.{Station, carried}

pub carried_parts : (ss : List Step) (d : Console) (v w : View) (locked light : Bool) (held : Option (List ℕ))
    → w ≡ drawn_all false ss v
    → held ≡ option_or d.held (taking false ss v)
    → locked ≡ (some_step is_lock ss || is_some held)
    → light ≡ (d.light || some_step is_light ss)
    → ◌≡◌ {A = Station} (record { view = w; console = record { locked = locked; light = light; held = held; call = d.call; outstanding = d.outstanding; due = true } })
    (record { view = drawn_all false ss v; console = carried ss (taking false ss v) d })
carried_parts ss d v w locked light held seen h l i = cc
