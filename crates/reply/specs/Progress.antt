-- What a reply has written, call by call: the octets of its characters so far over the area as it was before it began.
use Rattle.std.specs.Prelude.{◌≡◌, ℕ, List, [], ◌++◌, length, IfOk, Result}
use Rattle.line.specs.Kind.{Kind}
use Rattle.receiver.specs.Check.{block_check}
use Rattle.area.specs.declared.Refusal.{Refusal}
use Rattle.area.specs.Over.{over}
use Rattle.reply.specs.declared.begun.Begun.{Begun}
use Rattle.reply.specs.declared.begun.Closed.{Closed}
use Rattle.reply.specs.declared.begun.Refused.{Refused}
use Rattle.reply.specs.Octets.{soh_first, so_far, whole}

-- the reply b has sent cs after what it began with, over an area that was `before`, and the area shows it
pub record Holds (k : Kind) (before first cs : List ℕ) (b : Begun) (area : List ℕ) : Type 0 where
  pub place : b.place ≡ length (so_far k first cs)
  pub sum : b.sum ≡ block_check cs
  pub octets : area ≡ over (so_far k first cs) before

-- the closed reply c is the whole reply with the characters cs, and the area shows it
pub record Shows (k : Kind) (before first cs : List ℕ) (c : Closed) (area : List ℕ) : Type 0 where
  pub count : c.length ≡ length (whole k first cs)
  pub octets : area ≡ over (whole k first cs) before

-- a reply just begun has no character yet
abbrev pub Begins : Kind → List ℕ → Result Begun Refusal → List ℕ → Type 0
Begins k before r area = IfOk r (λ b. Holds k before soh_first [] b area)

-- whatever a reply held, it then holds these characters too
abbrev pub Extends : Kind → Begun → List ℕ → List ℕ → Result Begun Refused → List ℕ → Type 0
Extends k b area cs r after =
    (before first sent : List ℕ) → Holds k before first sent b area → IfOk r (λ d. Holds k before first (sent ++ cs) d after)

-- whatever a reply held, its check closes it
abbrev pub Ends : Kind → Begun → List ℕ → Result Closed Refused → List ℕ → Type 0
Ends k b area r after =
    (before first sent : List ℕ) → Holds k before first sent b area → IfOk r (λ c. Shows k before first sent c after)
