-- The four classes of codes.
use Rattle.std.specs.Prelude.{ℕ, Bool, cond, ◌&&◌, ◌||◌, ◌==◌, nat_le}
use Rattle.codes.specs.declared.class.Class.{Class}
use Rattle.codes.specs.declared.class.Class.TheVariants.{Fill, Framing, Data, Control}
use Rattle.codes.specs.Ascii.{NUL, SOH, ETX, SYN}

-- fill: skipped wherever characters are collected
abbrev pub is_fill : ℕ → Bool
is_fill c = c == NUL || c == SYN

-- framing: the first and the last character of a message
abbrev pub is_framing : ℕ → Bool
is_framing c = c == SOH || c == ETX

-- data: the printable characters
abbrev pub is_data : ℕ → Bool
is_data c = nat_le 0x20 c && nat_le c 0x7E

-- the class of a code; every code that is none of these three is a control
unfoldable pub class_of : ℕ → Class
class_of c = cond (is_fill c) Fill (cond (is_framing c) Framing (cond (is_data c) Data Control))
