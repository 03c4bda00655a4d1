-- A receiver behind a line: what one octet does.
use Rattle.std.specs.Prelude.{ℕ, Some, None, Ok, Err, Option, Result}
use Rattle.line.specs.declared.LineFault.{LineFault}
use Rattle.line.specs.Kind.{Kind}
use Rattle.line.specs.Octet.{given}
use Rattle.receiver.specs.declared.receive.Event.TheVariants.{Nothing}
use Rattle.receiver.specs.declared.fault.BadOctet.{BadOctet}
use Rattle.receiver.specs.declared.fault.Cause.TheVariants.{Line}
use Rattle.receiver.specs.Receiving.{State, idle, count, Next, goes_on, refused, step}

-- what the line gave leaves the state as it is, but a bad octet drops the message
abbrev pub noted : Result (Option ℕ) LineFault → State → State
noted (Ok c) s = s
noted (Err fault) s = idle

-- what the line gave, a fault with the count of characters kept
abbrev pub counted : Result (Option ℕ) LineFault → State → Result (Option ℕ) BadOctet
counted (Ok c) s = Ok c
counted (Err fault) s = Err (record { fault = fault; kept = count s })

-- a bad octet drops the message; a character is received; nothing is nothing
abbrev pub hear_given : Result (Option ℕ) LineFault → State → Next
hear_given (Ok None) s = goes_on s Nothing
hear_given (Ok (Some c)) s = step s c
hear_given (Err fault) s = refused (Line fault) s

-- an octet at a line of the kind k that wants w lead octets
abbrev pub hear : Kind → ℕ → State → ℕ → Next
hear k w s octet = hear_given (given k w octet) s
