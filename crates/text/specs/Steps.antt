-- Which steps a text has.
use Rattle.std.specs.Prelude.{ℕ, zero, suc, ◌+◌, ◌-◌, min, cond, ◌&&◌, List, [], ◌∷◌, take, ◌==◌, nat_le, slice_index}
use Rattle.std.specs.List.{prefix_len}
use Rattle.codes.specs.Ascii.{VT, SI, ESC, SPACE}
use Rattle.codes.specs.Classes.{is_data}

-- data characters with their place in the text; an address as row and column; ESC and a code; any other code; what is broken off
pub data Step : Type 0 where
  run : List ℕ → ℕ → Step
  address : ℕ → ℕ → Step
  escape : ℕ → Step
  control : ℕ → Step
  broken : Step

-- a step, and how many characters it takes
pub record Piece : Type 0 where
  pub step : Step
  pub taken : ℕ

-- ESC VT, and then t: two data characters and SI are an address; else the data characters up to the second are lost with it
abbrev pub address_at : List ℕ → Piece
address_at t =
    cond (nat_le 2 (prefix_len is_data t) && slice_index t 2 == SI)
    (record { step = address (slice_index t 0 - SPACE) (slice_index t 1 - SPACE); taken = 5 })
    (record { step = broken; taken = 2 + min 2 (prefix_len is_data t) })

-- ESC, and then t
abbrev pub escape_at : List ℕ → Piece
escape_at [] = record { step = broken; taken = 1 }
escape_at (c ∷ t) = cond (c == VT) (address_at t) (record { step = escape c; taken = 2 })

-- the first step of the text c ∷ t, which begins at the place p: a run is the longest run of data there
abbrev pub first : ℕ → ℕ → List ℕ → Piece
first p c t =
    cond (is_data c) (record { step = run (take (prefix_len is_data (c ∷ t)) (c ∷ t)) p; taken = prefix_len is_data (c ∷ t) })
    (cond (c == ESC) (escape_at t)
    (record { step = control c; taken = 1 }))

-- the steps of what stands at the place p, where the first k characters belong to the step before
abbrev pub steps : ℕ → ℕ → List ℕ → List Step
steps p k [] = []
steps p zero (c ∷ t) = (first p c t).step ∷ steps (p + 1) ((first p c t).taken - 1) t
steps p (suc k) (c ∷ t) = steps (p + 1) k t

-- the steps of a text
abbrev pub steps_of : List ℕ → List Step
steps_of t = steps 0 0 t
