-- What the record of a capture's offsets stands for.
use Rattle.capture.specs.declared.watch.Offsets as code
use Rattle.capture.specs.Offsets.{Place}

abbrev pub place_of : code.Offsets → Place
place_of o = record { octets = o.octets; message = o.message }
