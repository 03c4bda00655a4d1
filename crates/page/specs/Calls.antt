-- What writing and reading a page make of the area and of the screen.
use Rattle.std.specs.Prelude.{◌≡◌, ℕ, Bool, cond, ◌&&◌, List, length, Ok, Err, Result, ◌==◌}
use Rattle.area.specs.Over.{fits, over}
use Rattle.screen.specs.Grid.{Grid, has_place, with_cells}
use Rattle.page.specs.declared.refusal.Refusal.{Refusal}
use Rattle.page.specs.declared.refusal.Refusal.TheVariants.{ShortArea, OffScreen, WrongSize}
use Rattle.page.specs.Pages.{Page, page_octets, page_in}

-- the page of a screen
abbrev pub page_at : Grid → ℕ → Page
page_at g cursor = record { rows = g.rows; columns = g.columns; cursor = cursor; cells = g.cells }

abbrev pub octets_at : Grid → ℕ → List ℕ
octets_at g cursor = page_octets (page_at g cursor)

-- the area after a page is written, and the answer: its length, or 13 for a cursor off the screen, then 6 for want of room
pub record Written : Type 0 where
  pub area : List ℕ
  pub answer : Result ℕ Refusal

abbrev pub writes : Grid → ℕ → List ℕ → Written
writes g cursor area =
    cond (has_place g cursor)
    (cond (fits area 0 (length (octets_at g cursor)))
    (record { area = over (octets_at g cursor) area; answer = Ok (length (octets_at g cursor)) })
    (record { area = area; answer = Err ShortArea }))
    (record { area = area; answer = Err OffScreen })

abbrev pub same_size : Grid → Page → Bool
same_size g p = p.rows == g.rows && p.columns == g.columns

-- the screen after a page is read, and the answer: the cursor place, or the page's refusal, then 14 for another size
pub record Drawn : Type 0 where
  pub grid : Grid
  pub answer : Result ℕ Refusal

abbrev pub draws : Grid → Result Page Refusal → Drawn
draws g (Err e) = record { grid = g; answer = Err e }
draws g (Ok p) =
    cond (same_size g p)
    (record { grid = with_cells g p.cells; answer = Ok p.cursor })
    (record { grid = g; answer = Err WrongSize })

abbrev pub reads : Grid → List ℕ → Drawn
reads g os = draws g (page_in os)

-- the octets put the cells of g and the cursor place on every screen of its size
abbrev pub ReadsBack : Grid → ℕ → List ℕ → Type 0
ReadsBack g cursor os =
    (h : Grid) → h.rows ≡ g.rows → h.columns ≡ g.columns → reads h os ≡ record { grid = with_cells h g.cells; answer = Ok cursor }
