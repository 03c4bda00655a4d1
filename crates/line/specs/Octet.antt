-- What one octet does to a line that still wants w lead octets.
use Rattle.std.specs.Prelude.{ℕ, ◌-◌, cond, Some, None, Ok, Err, Option, Result, ◌==◌}
use Rattle.codes.specs.Ascii.{SYN}
use Rattle.line.specs.declared.LineFault.{LineFault}
use Rattle.line.specs.declared.LineFault.TheVariants.{Parity}
use Rattle.line.specs.Kind.{Kind}

-- the number wanted after the octet: a bad octet in step, and any but SYN's out of step, set it to the full number
abbrev pub wanted : Kind → ℕ → ℕ → ℕ
wanted k w octet =
    cond (w == 0) (cond (k.good octet) 0 k.full) (cond (octet == k.octet SYN) (w - 1) k.full)

-- what the octet gives: its character or a fault in step, nothing out of step
abbrev pub given : Kind → ℕ → ℕ → Result (Option ℕ) LineFault
given k w octet = cond (w == 0) (cond (k.good octet) (Ok (Some (k.character octet))) (Err Parity)) (Ok None)
