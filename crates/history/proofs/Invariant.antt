-- The invariant of every state that is reached; a new terminal has it.
use Rattle.std.proofs.Common.{◌≡◌, ℕ, zero, suc, ◌+◌, Bool, List, [], get_or, replicate, Option, refl, arith}
use Rattle.std.specs.List.{AllByRecursion}
use Rattle.line.specs.Kind.{Kind}
use Rattle.screen.specs.Cells.{blank}
use Rattle.edit.specs.View.{View}
use Rattle.edit.specs.Laws.{OnScreen}
use Rattle.edit.proofs.Sizes.{size_least}
use Rattle.transmission.specs.Laws.{Plain}
use Rattle.console.specs.Console.{Console, call_code}
use Rattle.station.specs.Station.{Station}
use Rattle.station.specs.Terminal.{State}
use Rattle.history.specs.Trace.{Transition, New}
use Rattle.history.specs.Words.{takes_up, acknowledges, count, held_count, caption_at, left_by_host, last_taken, carried_since}
use Rattle.history.proofs.Replies.{Holds, Backed}

-- the screen: left is what the last host text left protected, by places
pub record Shown (left : ℕ → Option ℕ) (v : View) : Type 0 where
  pub on_screen : OnScreen v
  pub captions : (p : ℕ) → caption_at v.grid p ≡ left p

-- the console: last is what the last transmission took, carried whether a host text was carried out since the last fresh acknowledgement
pub record Consistent (last : Option (List ℕ)) (carried : Bool) (d : Console) : Type 0 where
  pub holds : Holds d.held last d.locked
  pub backed : Backed d.outstanding d.held
  pub calls : AllByRecursion Plain (call_code d.call)
  pub due : d.due ≡ carried

-- a station after a history
pub record Invariant (k : Kind) (h : List Transition) (s : Station) : Type 0 where
  pub shown : Shown (left_by_host h) s.view
  pub counted : count takes_up h ≡ count acknowledges h + held_count s.console.held
  pub console : Consistent (last_taken h) (carried_since k h) s.console

blank_at : (n p : ℕ) → get_or (replicate n blank) p blank ≡ blank
blank_at zero p = refl
blank_at (suc n) zero = refl
blank_at (suc n) (suc p) = blank_at n p

pub new_invariant : (k : Kind) (s : State) → New s → Invariant k [] s.station
new_invariant k s new = record {
  shown = record {
    on_screen = record { sound = new.sound; on = omega (arith, size_least s.station.view.grid new.sound) };
    captions = λ p. rw (new.cells, blank_at);
  };
  counted = rw new.console;
  console = rw new.console (record { holds = tt; backed = tt; calls = tt; due = refl });
}
