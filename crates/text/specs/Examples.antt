-- Worked examples of a text's steps.
use Rattle.std.specs.Prelude.{◌≡◌, [], ◌∷◌}
use Rattle.codes.specs.Ascii.{VT, SI, ESC}
use Rattle.text.specs.Steps.{run, address, escape, control, broken, steps_of}

-- the address of row 11, column 79, and that of row 12, column 0
abbrev pub Addresses : Type 0
Addresses = steps_of (ESC ∷ VT ∷ 0x2B ∷ 0x6F ∷ SI ∷ ESC ∷ VT ∷ 0x2C ∷ 0x20 ∷ SI ∷ []) ≡ address 11 79 ∷ address 12 0 ∷ []

-- a third data character breaks an address off, and is read as usual
abbrev pub ThirdData : Type 0
ThirdData = steps_of (ESC ∷ VT ∷ 0x21 ∷ 0x22 ∷ 0x23 ∷ 0x24 ∷ []) ≡ broken ∷ run (0x23 ∷ 0x24 ∷ []) 4 ∷ []

-- so does an early SI
abbrev pub EarlySI : Type 0
EarlySI = steps_of (0x41 ∷ ESC ∷ VT ∷ 0x21 ∷ SI ∷ []) ≡ run (0x41 ∷ []) 0 ∷ broken ∷ control SI ∷ []

-- ESC ESC e is ESC with a code that has no rule, and then the letter e as data; ESC at the end is nothing
abbrev pub Twice : Type 0
Twice = steps_of (ESC ∷ ESC ∷ 0x65 ∷ ESC ∷ []) ≡ escape ESC ∷ run (0x65 ∷ []) 2 ∷ broken ∷ []
