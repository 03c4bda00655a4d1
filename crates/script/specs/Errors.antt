-- Why a run ends.
use Rattle.std.specs.Prelude.{◌≡◌}
use Rattle.std.specs.IoError.{error_kind}
use Rattle.std.specs.declared.io.ErrorKind.TheVariants.{OutOfMemory}
use Rattle.script.specs.declared.error.RunError.{RunError}
use Rattle.script.specs.declared.error.RunError.TheVariants.{Script, Io}

-- for want of memory
abbrev pub IsOutOfMemory : RunError → Type 0
IsOutOfMemory (Io e) = error_kind e ≡ OutOfMemory
IsOutOfMemory (Script e) = ⊥
