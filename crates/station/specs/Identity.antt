-- Which identifiers a station can have.
use Rattle.std.specs.Prelude.{ℕ, Bool, ◌&&◌, nat_le}

-- a remote identifier from 21 to 4F and a station identifier from 51 to 6F
abbrev pub is_identity : ℕ → ℕ → Bool
is_identity rid sid = (nat_le 0x21 rid && nat_le rid 0x4F) && (nat_le 0x51 sid && nat_le sid 0x6F)
