-- What each key is to do, and when it is refused.
use Rattle.std.specs.Prelude.{ℕ, ◌-◌, Bool, true, false, cond, not, ◌&&◌, List, [], ◌∷◌, Some, None, Ok, Err, Option, Result, nat_le, slice_index_or}
use Rattle.codes.specs.Ascii.{BEL, HT, RS}
use Rattle.codes.specs.Classes.{is_data}
use Rattle.edit.specs.declared.edits.Reach.TheVariants.{Row, Display}
use Rattle.edit.specs.declared.edits.Motion.TheVariants.{Home, Up, Down, Left, Right, Return, Tab}
use Rattle.edit.specs.declared.edits.Change.TheVariants.{EraseOpen, Erase, Delete, Insert}
use Rattle.edit.specs.declared.edits.Edit.TheVariants.{Move, Change}
use Rattle.transmission.specs.declared.kind.Kind as sending
use Rattle.console.specs.declared.fault.KeyRefusal.{KeyRefusal}
use Rattle.console.specs.declared.fault.KeyRefusal.TheVariants.{Locked, NoSuchKey, NoOpenCell, StillHeld, CallHeld}
use Rattle.console.specs.declared.key.KeyAction.{KeyAction}
use Rattle.console.specs.declared.key.KeyAction.TheVariants.{Store, Edit, Transmit, Call, Unlock}

-- the keys from 80 on: home, up, left, right, down, CR, HT; tab stop, start of entry; ESC a, b, K, d, c, D, C;
-- TRANSMIT, TRANSMIT DISPLAY; MESSAGE WAIT, the four function keys; UNLOCK
abbrev pub keys : List KeyAction
keys =
    Edit (Move Home) ∷ Edit (Move Up) ∷ Edit (Move Left) ∷ Edit (Move Right) ∷ Edit (Move Down) ∷ Edit (Move Return)
    ∷ Edit (Move Tab) ∷ Store HT ∷ Store RS
    ∷ Edit (Change EraseOpen) ∷ Edit (Change (Erase Row)) ∷ Edit (Change (Erase Display)) ∷ Edit (Change (Insert Row))
    ∷ Edit (Change (Delete Row)) ∷ Edit (Change (Insert Display)) ∷ Edit (Change (Delete Display))
    ∷ Transmit sending.TheVariants.Open ∷ Transmit sending.TheVariants.Display
    ∷ Call BEL ∷ Call 0x37 ∷ Call 0x47 ∷ Call 0x57 ∷ Call 0x67
    ∷ Unlock ∷ []

-- the action of a key, if there is such a key
abbrev pub key_action : ℕ → Option KeyAction
key_action c =
    cond (is_data c) (Some (Store c))
    (cond (nat_le 0x80 c && nat_le c 0x97) (Some (slice_index_or keys (c - 0x80) Unlock)) None)

abbrev pub unless : Bool → KeyRefusal → Result KeyAction KeyRefusal → Result KeyAction KeyRefusal
unless b r x = cond b (Err r) x

-- a locked keyboard refuses all keys but UNLOCK; then an action has its own refusal
abbrev pub guarded : (locked any_open held called : Bool) → KeyAction → Result KeyAction KeyRefusal
guarded locked any_open held called (Store c) = unless locked Locked (unless (not any_open) NoOpenCell (Ok (Store c)))
guarded locked any_open held called (Edit e) = unless locked Locked (Ok (Edit e))
guarded locked any_open held called (Transmit k) = unless locked Locked (Ok (Transmit k))
guarded locked any_open held called (Call c) = unless locked Locked (unless called CallHeld (Ok (Call c)))
guarded locked any_open held called Unlock = unless held StillHeld (Ok Unlock)

abbrev pub guarded_key : (locked any_open held called : Bool) → Option KeyAction → Result KeyAction KeyRefusal
guarded_key locked any_open held called None = Err NoSuchKey
guarded_key locked any_open held called (Some a) = guarded locked any_open held called a

-- what a key does now
abbrev pub decide_key : (locked any_open held called : Bool) → ℕ → Result KeyAction KeyRefusal
decide_key locked any_open held called c = guarded_key locked any_open held called (key_action c)

-- whether an action takes up a transmission
abbrev pub takes_up : KeyAction → Bool
takes_up (Store c) = false
takes_up (Edit e) = false
takes_up (Transmit k) = true
takes_up (Call c) = false
takes_up Unlock = false
