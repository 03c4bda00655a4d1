-- A page that was walked through.
use Rattle.std.specs.Prelude.{◌≡◌, ℕ, ◌*◌, ◌≤◌, List, [], Ok, Err, Result, MatchResult}
use Rattle.screen.specs.Cells.{Cell}
use Rattle.screen.specs.Grid.{Grid}
use Rattle.page.specs.declared.refusal.Refusal.{Refusal}
use Rattle.page.specs.declared.reader.Header.{Header}
use Rattle.page.specs.declared.read.Checked.{Checked}
use Rattle.page.specs.Numbers.{read}
use Rattle.page.specs.Pages.{Page, page_octets, cells_in, page_in}
use Rattle.page.specs.Calls.{reads, octets_at}
use Rattle.page.specs.Walk.{rest_of}

abbrev pub page_of : Header → List Cell → Page
page_of h cs = record { rows = h.rows; columns = h.columns; cursor = h.cursor; cells = cs }

-- the octets are a page whose cells the reader is about to read
pub record Found (os : List ℕ) (k : Checked) : Type 0 where
  pub cells : List Cell
  pub whole : page_in os ≡ Ok (page_of k.header cells)
  pub ahead : cells_in (k.header.rows * k.header.columns) (rest_of k.cells) ≡ Ok (read cells [])
  pub same : page_octets (page_of k.header cells) ≡ os
  pub few_rows : k.header.rows ≤ 24
  pub few_columns : k.header.columns ≤ 80

-- or the refusal of the octets
abbrev pub Finds : List ℕ → Result Checked Refusal → Type 0
Finds os r = MatchResult r (Found os) (λ e. page_in os ≡ Err e)

-- a page shown: the screen and the cursor place are what the octets say, and their page has these octets
pub record Shown (os : List ℕ) (before : Grid) (cursor : ℕ) (after : Grid) : Type 0 where
  pub grid : after ≡ (reads before os).grid
  pub answer : Ok cursor ≡ (reads before os).answer
  pub same : octets_at after cursor ≡ os
