-- The settled examples.
use Rattle.std.specs.Prelude.{◌≡◌, ℕ, false, List, [], ◌∷◌, replicate, Some, Err, slice_set}
use Rattle.std.proofs.Common.{lit≤}
use Rattle.codes.specs.Ascii.{SOH, STX, ETX, EOT, VT, CR, SI, ESC, RS}
use Rattle.line.specs.Parity.{synchronous, asynchronous}
use Rattle.receiver.specs.Check.{block_check}
use Rattle.receiver.specs.Receiving.{idle}
use Rattle.screen.specs.Cells.{cell, blank}
use Rattle.screen.specs.Grid.{Grid, with_cells}
use Rattle.text.specs.Steps.{steps_of}
use Rattle.edit.specs.View.{View, view, at}
use Rattle.transmission.specs.declared.kind.Kind.TheVariants.{Open}
use Rattle.transmission.specs.Text.{taken}
use Rattle.host.specs.Drawing.{drawn_all}
use Rattle.page.specs.declared.refusal.Refusal.TheVariants.{WrongNumber}
use Rattle.page.specs.Numbers.{number, first_number}
use Rattle.station.specs.declared.identity.Identity.{Identity}
use Rattle.console.specs.Console.{Console, new_console, polled}
use Rattle.station.specs.Terminal.{State, keyed}

-- a new screen of 12 rows of 80
abbrev new : Grid
new = record { rows = 12; columns = 80; cells = replicate 960 blank }

-- the view that a host text leaves on it, with the cursor at a place before
abbrev drawn_from : ℕ → List ℕ → View
drawn_from p text = drawn_all false (steps_of text) (at new p)

-- the station 31 61
abbrev station : Identity
station = record { identifiers = record { rid = 0x31; sid = 0x61 }; rid_least = lit≤ tt; rid_most = lit≤ tt; sid_least = lit≤ tt; sid_most = lit≤ tt }

-- a new terminal on that screen
abbrev made : State
made = record { wants = 0; receiver = idle; station = record { view = at new 0; console = new_console } }

abbrev pressed_all : List ℕ → State → State
pressed_all [] s = s
pressed_all (c ∷ cs) s = pressed_all cs (keyed c s).after

-- after the keys start of entry, A, TRANSMIT
abbrev console : Console
console = (pressed_all (0x88 ∷ 0x41 ∷ 0x90 ∷ []) made).station.console

pub record Settled : Type 0 where
  -- the octets of SOH and ETX: 01 and 83 on the synchronous line, 81 and 03 on the asynchronous one
  pub synchronous_SOH : synchronous.octet SOH ≡ 0x01
  pub synchronous_ETX : synchronous.octet ETX ≡ 0x83
  pub asynchronous_SOH : asynchronous.octet SOH ≡ 0x81
  pub asynchronous_ETX : asynchronous.octet ETX ≡ 0x03
  -- the poll 31 61 70 ETX has the check 23; no traffic, EOT EOT ETX, has the check 03
  pub poll_check : block_check (0x31 ∷ 0x61 ∷ 0x70 ∷ ETX ∷ []) ≡ 0x23
  pub no_traffic_check : block_check (EOT ∷ EOT ∷ ETX ∷ []) ≡ 0x03
  -- the address 2B 6F is place 959; 2C 20 is off the screen, and moves nothing
  pub last_place : drawn_from 0 (ESC ∷ VT ∷ 0x2B ∷ 0x6F ∷ SI ∷ []) ≡ view new 959
  pub no_move : drawn_from 959 (ESC ∷ VT ∷ 0x2C ∷ 0x20 ∷ SI ∷ []) ≡ view new 959
  -- start of entry, A, TRANSMIT: the held text, and the reply to a poll, whose check is 41
  pub keyed_text : console.held ≡ Some (ESC ∷ VT ∷ 0x20 ∷ 0x20 ∷ SI ∷ RS ∷ 0x41 ∷ 0x20 ∷ [])
  pub keyed_check : block_check (0x31 ∷ 0x61 ∷ 0x70 ∷ STX ∷ ESC ∷ VT ∷ 0x20 ∷ 0x20 ∷ SI ∷ RS ∷ 0x41 ∷ 0x20 ∷ ETX ∷ []) ≡ 0x41
  pub keyed_reply :
      (polled asynchronous station.identifiers false console).octets
      ≡ 0x81 ∷ 0xB1 ∷ 0xE1 ∷ 0xF0 ∷ 0x82 ∷ 0x1B ∷ 0x8B ∷ 0xA0 ∷ 0xA0 ∷ 0x0F ∷ 0x1E ∷ 0x41 ∷ 0xA0 ∷ 0x03 ∷ 0x41 ∷ []
  -- A at place 0, the cursor on B at place 80, else open spaces: TRANSMIT
  pub two_rows :
      taken Open (view (with_cells new (slice_set (slice_set new.cells 0 (cell 0x41 false)) 80 (cell 0x42 false))) 80)
      ≡ ESC ∷ VT ∷ 0x20 ∷ 0x20 ∷ SI ∷ 0x41 ∷ CR ∷ 0x42 ∷ []
  -- the number 300 is AC 02 in a page, and 81 00 is a wrong number
  pub longer : number 300 ≡ 0xAC ∷ 0x02 ∷ []
  pub padded : first_number (0x81 ∷ 0x00 ∷ []) ≡ Err WrongNumber
