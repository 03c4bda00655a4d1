-- The number of the refusal.
use Rattle.std.specs.Prelude.{ℕ}
use Rattle.area.specs.declared.Refusal.{Refusal}
use Rattle.area.specs.declared.Refusal.TheVariants.{ShortArea}

abbrev pub number_of : Refusal → ℕ
number_of ShortArea = 6
