-- A station's replies that are no host's message.
use Rattle.std.specs.Prelude.{ℕ, ◌-◌, Bool, cond, ◌&&◌, ◌||◌, List, length, take, drop, Some, None, Option, ◌==◌, nat_le, slice_index}
use Rattle.codes.specs.Ascii.{STX, ETX, ENQ, BEL, DLE}
use Rattle.message.specs.Forms.{is_three}

pub data Reply : Type 0 where
  enquiry : Reply
  call : ℕ → Reply
  acknowledged_call : ℕ → Reply
  acknowledged_text : List ℕ → Reply

-- the call keys' codes: BEL for MESSAGE WAIT; 7, G, W, g for the function keys
abbrev pub is_call : ℕ → Bool
is_call c = c == BEL || (c == 0x37 || (c == 0x47 || (c == 0x57 || c == 0x67)))

-- DLE 31 stands first
abbrev pub acknowledges : List ℕ → Bool
acknowledges t = slice_index t 0 == DLE && slice_index t 1 == 0x31

-- a call and ETX
abbrev pub is_call_reply : List ℕ → Bool
is_call_reply t = length t == 2 && (slice_index t 1 == ETX && is_call (slice_index t 0))

-- DLE 31, a call and ETX
abbrev pub is_acknowledged_call : List ℕ → Bool
is_acknowledged_call t = length t == 4 && (acknowledges t && (slice_index t 3 == ETX && is_call (slice_index t 2)))

-- DLE 31 STX first, ETX last
abbrev pub is_acknowledged_text : List ℕ → Bool
is_acknowledged_text t =
    nat_le 4 (length t) && (acknowledges t && (slice_index t 2 == STX && slice_index t (length t - 1) == ETX))

-- the reply after the addresses: DLE ENQ ETX; call ETX; DLE 31 call ETX; DLE 31 STX, text, ETX
abbrev pub reply_in : List ℕ → Option Reply
reply_in t =
    cond (is_three DLE ENQ ETX t) (Some enquiry)
    (cond (is_call_reply t) (Some (call (slice_index t 0)))
    (cond (is_acknowledged_call t) (Some (acknowledged_call (slice_index t 2)))
    (cond (is_acknowledged_text t) (Some (acknowledged_text (take (length t - 4) (drop 3 t)))) None)))
