-- The octets of a reply.
use Rattle.std.specs.Prelude.{ℕ, ◌%◌, List, [], ◌∷◌, ◌++◌, map, replicate}
use Rattle.codes.specs.Ascii.{SOH, ETX, EOT, SYN}
use Rattle.line.specs.Kind.{Kind}
use Rattle.receiver.specs.Check.{block_check}

-- the SYN octets that stand before a reply
abbrev pub lead : Kind → List ℕ
lead k = replicate k.lead (k.octet SYN)

-- the octets that the line sends for characters
abbrev pub octets : Kind → List ℕ → List ℕ
octets k cs = map (λ c. k.octet (c % 128)) cs

-- characters, and their check
abbrev pub checked : List ℕ → List ℕ
checked cs = cs ++ (block_check cs ∷ [])

-- what a reply begins with after the lead: SOH, or nothing where there is no traffic
abbrev pub soh_first : List ℕ
soh_first = SOH ∷ []

-- a reply under way: the lead, what it begins with, and its characters so far
abbrev pub so_far : Kind → List ℕ → List ℕ → List ℕ
so_far k first cs = lead k ++ octets k (first ++ cs)

-- a whole reply: the check of its characters behind them
abbrev pub whole : Kind → List ℕ → List ℕ → List ℕ
whole k first cs = so_far k first (checked cs)

-- the reply whose characters after SOH are cs
abbrev pub reply_octets : Kind → List ℕ → List ℕ
reply_octets k cs = whole k soh_first cs

-- the reply of a station that has nothing to send
abbrev pub no_traffic : List ℕ
no_traffic = EOT ∷ EOT ∷ ETX ∷ []

abbrev pub no_traffic_octets : Kind → List ℕ
no_traffic_octets k = whole k [] no_traffic
