-- The text in the record.
use Rattle.std.specs.Prelude.{ℕ, List, take}
use Rattle.transmission.specs.declared.held.HeldText.{HeldText}
use Rattle.transmission.specs.Text.{Sent}

abbrev pub text_of : HeldText → List ℕ
text_of h = take h.len h.characters

-- with the protection of the last cell sent
abbrev pub sent_of : HeldText → Sent
sent_of h = record { characters = text_of h; last = h.protected }
