-- The forms of a message.
use Rattle.std.specs.Prelude.{ℕ, ◌-◌, Bool, cond, ◌&&◌, List, length, take, drop, Some, None, Option, ◌==◌, nat_le, slice_index}
use Rattle.std.specs.Option.{option_map}
use Rattle.codes.specs.Ascii.{STX, ETX, DLE, NAK}

pub data Form : Type 0 where
  poll : Form
  poll_acknowledge : Form
  repeat_request : Form
  text : List ℕ → Form

-- the list is this single character
abbrev pub is_one : ℕ → List ℕ → Bool
is_one a t = length t == 1 && slice_index t 0 == a

-- the list is these three characters
abbrev pub is_three : ℕ → ℕ → ℕ → List ℕ → Bool
is_three a b c t = length t == 3 && (slice_index t 0 == a && (slice_index t 1 == b && slice_index t 2 == c))

-- STX first and ETX last
abbrev pub is_text : List ℕ → Bool
is_text t = slice_index t 0 == STX && slice_index t (length t - 1) == ETX

-- the form of what follows the addresses: ETX; DLE 31 ETX; DLE NAK ETX; STX, text, ETX
abbrev pub form_in : List ℕ → Option Form
form_in t =
    cond (is_one ETX t) (Some poll)
    (cond (is_three DLE 0x31 ETX t) (Some poll_acknowledge)
    (cond (is_three DLE NAK ETX t) (Some repeat_request)
    (cond (is_text t) (Some (text (take (length t - 2) (drop 1 t)))) None)))

-- a message: remote, station and device identifier, and a form
pub record Message : Type 0 where
  pub rid : ℕ
  pub sid : ℕ
  pub did : ℕ
  pub form : Form

abbrev pub addressed : ℕ → ℕ → ℕ → Option Form → Option Message
addressed rid sid did = option_map (λ f. record { rid = rid; sid = sid; did = did; form = f })

-- the message in some characters, if they have a form
abbrev pub message_in : List ℕ → Option Message
message_in cs =
    cond (nat_le 3 (length cs)) (addressed (slice_index cs 0) (slice_index cs 1) (slice_index cs 2) (form_in (drop 3 cs))) None
