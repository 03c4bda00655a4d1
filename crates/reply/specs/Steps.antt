-- What each call makes of a reply and of the area.
use Rattle.std.specs.Prelude.{ℕ, ◌+◌, Bool, cond, List, [], ◌∷◌, length, Ok, Err, Result, bit_xor}
use Rattle.line.specs.Kind.{Kind}
use Rattle.receiver.specs.Check.{block_check}
use Rattle.area.specs.declared.Refusal.{Refusal}
use Rattle.area.specs.declared.Refusal.TheVariants.{ShortArea}
use Rattle.area.specs.Over.{fits, over, written_at}
use Rattle.reply.specs.declared.begun.Begun.{Begun}
use Rattle.reply.specs.declared.begun.Closed.{Closed}
use Rattle.reply.specs.declared.begun.Refused.{Refused}
use Rattle.reply.specs.Octets.{octets, soh_first, so_far, no_traffic_octets}

-- a begun reply by its next place and its sum, a closed one by its length, and one refused for want of room
abbrev pub begun : ℕ → ℕ → Begun
begun p s = record { place = p; sum = s }

abbrev pub closed : ℕ → Closed
closed n = record { length = n }

abbrev pub refused : Begun → Refused
refused b = record { reply = b; refusal = ShortArea }

-- the area after a call, and the answer
pub record Left (A E : Type 0) : Type 0 where
  pub area : List ℕ
  pub answer : Result A E

-- the reply, where so many octets more have room
abbrev pub fitting : Begun → ℕ → List ℕ → Result Begun Refused
fitting b count area = cond (fits area b.place count) (Ok b) (Err (refused b))

-- where there is room a call writes and is done, and else it leaves the area as it was
abbrev pub left : {A E : Type 0} → Bool → List ℕ → List ℕ → A → E → Left A E
left room before after done full = cond room (record { area = after; answer = Ok done }) (record { area = before; answer = Err full })

-- a reply begins with the lead and SOH
abbrev pub begins : Kind → List ℕ → Left Begun Refusal
begins k area = left (fits area 0 (k.lead + 1)) area (over (so_far k soh_first []) area) (begun (k.lead + 1) 0) ShortArea

-- the reply with characters more
abbrev pub longer : Begun → List ℕ → Begun
longer b cs = begun (b.place + length cs) (bit_xor b.sum (block_check cs))

-- a reply takes characters: all of them, or none
abbrev pub puts : Kind → Begun → List ℕ → List ℕ → Left Begun Refused
puts k b cs area =
    left (fits area b.place (length cs)) area (written_at area b.place (octets k cs)) (longer b cs) (refused b)

-- its sum closes it as the check
abbrev pub closes : Kind → Begun → List ℕ → Left Closed Refused
closes k b area =
    left (fits area b.place 1) area (written_at area b.place (octets k (b.sum ∷ []))) (closed (b.place + 1)) (refused b)

-- no traffic: a whole reply of the lead and four octets
abbrev pub sends_no_traffic : Kind → List ℕ → Left Closed Refusal
sends_no_traffic k area = left (fits area 0 (k.lead + 4)) area (over (no_traffic_octets k) area) (closed (k.lead + 4)) ShortArea
