-- The numbers of the refusals.
use Rattle.std.specs.Prelude.{ℕ}
use Rattle.console.specs.Numbers.{key_number, octet_number}
use Rattle.station.specs.declared.fault.Refusal.{Refusal}
use Rattle.station.specs.declared.fault.Refusal.TheVariants.{Key, Octet}
use Rattle.station.specs.declared.identity.IdentityRefusal.{IdentityRefusal}
use Rattle.station.specs.declared.identity.IdentityRefusal.TheVariants.{OutOfRange}

-- 1 to 5 of a key, 6 to 12 of an octet
abbrev pub refusal_number : Refusal → ℕ
refusal_number (Key refusal) = key_number refusal
refusal_number (Octet refusal) = octet_number refusal

-- 15 no such station
abbrev pub identity_number : IdentityRefusal → ℕ
identity_number OutOfRange = 15
