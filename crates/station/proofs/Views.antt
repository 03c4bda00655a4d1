-- The view that a key leaves.
use Rattle.std.proofs.Common.{◌≡◌, ℕ, sym, ◌∙◌, subst}
use Rattle.screen.specs.Grid.{Grid}
use Rattle.edit.specs.View.{View, view, at}
use Rattle.edit.specs.Laws.{OnScreen}
use Rattle.host.proofs.Steps.{at_view}

-- a cursor that is left on the screen is where it was put
pub left_at : (g : Grid) (p : ℕ) (v : View) → OnScreen v → view g p ≡ v → at g p ≡ v
left_at g p v k e = at_view g p (subst OnScreen (sym e) k).on ∙ e
