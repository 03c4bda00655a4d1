-- What a kind of line fixes, and the laws that every kind shows.
use Rattle.std.specs.Prelude.{◌≡◌, ℕ, ◌^◌, ◌<◌, ◌≤◌, Bool, true, false, bit_xor}

pub record Kind : Type 0 where
  -- how many lead octets a new line wants
  pub full : ℕ
  -- how many SYN octets stand before a reply
  pub lead : ℕ
  -- a character's octet
  pub octet : ℕ → ℕ
  -- which octets are good, and the character of each
  pub good : ℕ → Bool
  pub character : ℕ → ℕ

-- a character's octet gives that character
abbrev pub GivesBack : Kind → Type 0
GivesBack k = (c : ℕ) → c < 128 → (k.good (k.octet c) ≡ true) × (k.character (k.octet c) ≡ c)

-- a good octet with one bit changed is bad
abbrev pub DetectsOneBit : Kind → Type 0
DetectsOneBit k = (o i : ℕ) → o < 256 → i < 8 → k.good o ≡ true → k.good (bit_xor o (2 ^ i)) ≡ false

-- the lead brings a new line at the other end into step, and is at most 20
abbrev pub LeadFits : Kind → Type 0
LeadFits k = (k.full ≤ k.lead) × (k.lead ≤ 20)

-- a character's octet is an octet, and a good octet's character is a character
abbrev pub InRange : Kind → Type 0
InRange k = ((c : ℕ) → c < 128 → k.octet c < 256) × ((o : ℕ) → k.good o ≡ true → k.character o < 128)
