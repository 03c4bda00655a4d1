-- Hexadecimal digits and octets of two digits.
use Rattle.std.specs.Prelude.{ℕ, ◌+◌, ◌-◌, ◌*◌, cond, ◌&&◌, List, length, Some, None, Option, ◌==◌, nat_le, nat_lt, slice_index}

-- the digit that a character names: 0 to 9, A to F or a to f
abbrev pub digit_in : ℕ → Option ℕ
digit_in c =
    cond (nat_le 48 c && nat_le c 57) (Some (c - 48))
    (cond (nat_le 65 c && nat_le c 70) (Some (c - 65 + 10))
    (cond (nat_le 97 c && nat_le c 102) (Some (c - 97 + 10)) None))

abbrev pub both : Option ℕ → Option ℕ → Option ℕ
both (Some high) (Some low) = Some (high * 16 + low)
both (Some high) None = None
both None (Some low) = None
both None None = None

-- the octet that a word of just two digits names
abbrev pub octet_in : List ℕ → Option ℕ
octet_in word = cond (length word == 2) (both (digit_in (slice_index word 0)) (digit_in (slice_index word 1))) None

-- a digit's character, in upper case
abbrev pub digit_of : ℕ → ℕ
digit_of d = cond (nat_lt d 10) (48 + d) (65 + (d - 10))
