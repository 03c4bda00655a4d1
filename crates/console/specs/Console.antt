-- Keyboard lock, light, what is held, what is outstanding, and the answers to polls.
use Rattle.std.specs.Prelude.{ℕ, Bool, true, false, cond, List, [], ◌∷◌, ◌++◌, Some, None, Option}
use Rattle.codes.specs.Ascii.{STX, ETX, ENQ, DLE}
use Rattle.line.specs.Kind.{Kind}
use Rattle.reply.specs.Octets.{reply_octets, no_traffic_octets}
use Rattle.console.specs.declared.identity.Identity.{Identity}
use Rattle.console.specs.declared.outstanding.Load.{Load}
use Rattle.console.specs.declared.outstanding.Load.TheVariants.{Nothing, Text, Call}
use Rattle.console.specs.declared.outstanding.Outstanding.{Outstanding}

pub record Console : Type 0 where
  -- the keyboard is locked, the message light is on
  pub locked : Bool
  pub light : Bool
  -- the text and the call that wait for their acknowledgement
  pub held : Option (List ℕ)
  pub call : Option ℕ
  -- the reply that is still to be acknowledged
  pub outstanding : Option Outstanding
  -- a host text was carried out since the last fresh acknowledgement
  pub due : Bool

abbrev pub new_console : Console
new_console = record { locked = false; light = false; held = None; call = None; outstanding = None; due = false }

-- the device identifier
abbrev pub DID : ℕ
DID = 0x70

-- the second character of an acknowledgement
abbrev pub ONE : ℕ
ONE = 0x31

abbrev pub text_codes : Option (List ℕ) → List ℕ
text_codes None = []
text_codes (Some t) = STX ∷ t

abbrev pub call_code : Option ℕ → List ℕ
call_code None = []
call_code (Some c) = c ∷ []

abbrev pub load_codes : Load → Console → List ℕ
load_codes Nothing d = []
load_codes Text d = text_codes d.held
load_codes Call d = call_code d.call

-- what stands between DID and ETX in a reply
abbrev pub content : Outstanding → Console → List ℕ
content q d = cond q.acknowledges (DLE ∷ (ONE ∷ [])) [] ++ load_codes q.load d

-- what a station sends while its last reply is still to be acknowledged
abbrev pub enquiry : List ℕ
enquiry = DLE ∷ (ENQ ∷ [])

-- a reply with SOH: the addresses, the content and ETX
abbrev pub framed : Kind → Identity → List ℕ → List ℕ
framed k id cs = reply_octets k (id.rid ∷ (id.sid ∷ (DID ∷ (cs ++ (ETX ∷ [])))))

-- the text comes before the call
abbrev pub load_of : Option (List ℕ) → Option ℕ → Load
load_of (Some t) c = Text
load_of None (Some c) = Call
load_of None None = Nothing

-- what a poll finds to send
abbrev pub found : Console → Outstanding
found d = record { acknowledges = d.due; load = load_of d.held d.call }

-- whether a reply would say nothing
abbrev pub is_empty : Outstanding → Bool
is_empty q = cond q.acknowledges false (elim q.load [ Nothing ↦ true | Text ↦ false | Call ↦ false ])

-- what the settled reply carried is no longer held
abbrev pub freed : Load → Console → Console
freed Nothing d = record { locked = d.locked; light = d.light; held = d.held; call = d.call; outstanding = None; due = d.due }
freed Text d = record { locked = d.locked; light = d.light; held = None; call = d.call; outstanding = None; due = d.due }
freed Call d = record { locked = d.locked; light = d.light; held = d.held; call = None; outstanding = None; due = d.due }

-- a poll with acknowledgement settles what is outstanding
abbrev pub settled : Bool → Option Outstanding → Console → Console
settled false o d = d
settled true None d = d
settled true (Some q) d = freed q.load d

-- whether the settling acknowledged the held text
abbrev pub acknowledges_text : Bool → Option Outstanding → Bool
acknowledges_text false o = false
acknowledges_text true None = false
acknowledges_text true (Some q) = elim q.load [ Nothing ↦ false | Text ↦ true | Call ↦ false ]

-- a reply's octets, and the console after it
pub record Spoken : Type 0 where
  pub octets : List ℕ
  pub console : Console

-- the reply is outstanding, and pays the acknowledgement that was due
abbrev pub with_outstanding : Outstanding → Console → Console
with_outstanding q d = record { locked = d.locked; light = d.light; held = d.held; call = d.call; outstanding = Some q; due = false }

-- the answer to a poll after the settling: the enquiry while something is outstanding; else what there is to send, or no traffic
abbrev pub spoken : Kind → Identity → Option Outstanding → Console → Spoken
spoken k id (Some q) d = record { octets = framed k id enquiry; console = d }
spoken k id None d =
    cond (is_empty (found d)) (record { octets = no_traffic_octets k; console = d })
    (record { octets = framed k id (content (found d) d); console = with_outstanding (found d) d })

-- a poll, with acknowledgement or without
abbrev pub polled : Kind → Identity → Bool → Console → Spoken
polled k id a d = let e : Console = settled a d.outstanding d in spoken k id e.outstanding e

-- a text taken up is held and locks the keyboard
abbrev pub holding : List ℕ → Console → Console
holding t d = record { locked = true; light = d.light; held = Some t; call = d.call; outstanding = d.outstanding; due = d.due }

-- a call is held; MESSAGE WAIT puts the light off
abbrev pub calling : ℕ → Bool → Console → Console
calling c light d = record { locked = d.locked; light = light; held = d.held; call = Some c; outstanding = d.outstanding; due = d.due }

abbrev pub unlocked : Console → Console
unlocked d = record { locked = false; light = d.light; held = d.held; call = d.call; outstanding = d.outstanding; due = d.due }
