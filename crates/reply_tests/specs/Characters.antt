-- The characters of a reply after SOH: the station 31 61, an acknowledgement or nothing, and a text.
use Rattle.std.specs.Prelude.{ℕ, List, [], ◌∷◌, ◌++◌}
use Rattle.codes.specs.Ascii.{STX, ETX}

abbrev pub characters : List ℕ → List ℕ → List ℕ
characters acknowledgement text = 0x31 ∷ 0x61 ∷ 0x70 ∷ (acknowledgement ++ (STX ∷ (text ++ (ETX ∷ []))))
