-- What a transmission's text can hold.
use Rattle.std.specs.Prelude.{◌≡◌, ℕ, ◌<◌}
use Rattle.std.specs.List.{AllByRecursion}
use Rattle.codes.specs.Ascii.{STX, ETX, DLE}
use Rattle.edit.specs.View.{View}
use Rattle.edit.specs.Laws.{OnScreen}
use Rattle.transmission.specs.declared.kind.Kind.{Kind}
use Rattle.transmission.specs.Text.{taken}

-- seven bits, and none of the characters that divide a message
pub record Plain (c : ℕ) : Type 0 where
  pub seven : c < 128
  pub no_stx : c ≡ STX → ⊥
  pub no_etx : c ≡ ETX → ⊥
  pub no_dle : c ≡ DLE → ⊥

-- so a message that carries the text can be taken apart again
abbrev pub TextsArePlain : Type 0
TextsArePlain = (k : Kind) (v : View) → OnScreen v → AllByRecursion Plain (taken k v)
