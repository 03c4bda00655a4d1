-- The settled examples.
use Rattle.std.specs.Prelude.{◌≡◌, [], ◌∷◌}
use Rattle.codes.specs.Ascii.{SOH, ETX, EOT}
use Rattle.line.specs.Parity.{synchronous, asynchronous}
use Rattle.receiver.specs.Check.{block_check}

-- the octets of SOH and ETX: 01 and 83 on the synchronous line, 81 and 03 on the asynchronous one
pub record LineOctets : Type 0 where
  pub synchronous_soh : synchronous.octet SOH ≡ 0x01
  pub synchronous_etx : synchronous.octet ETX ≡ 0x83
  pub asynchronous_soh : asynchronous.octet SOH ≡ 0x81
  pub asynchronous_etx : asynchronous.octet ETX ≡ 0x03

-- the poll 31 61 70 ETX has the check 23
abbrev pub PollCheck : Type 0
PollCheck = block_check (0x31 ∷ (0x61 ∷ (0x70 ∷ (ETX ∷ [])))) ≡ 0x23

-- no traffic, EOT EOT ETX, has the check 03
abbrev pub NoTrafficCheck : Type 0
NoTrafficCheck = block_check (EOT ∷ (EOT ∷ (ETX ∷ []))) ≡ 0x03
