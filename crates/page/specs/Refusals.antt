-- The numbers of the refusals.
use Rattle.std.specs.Prelude.{ℕ}
use Rattle.page.specs.declared.refusal.Refusal.{Refusal}
use Rattle.page.specs.declared.refusal.Refusal.TheVariants.{ShortArea, OffScreen, WrongSize, CutShort, WrongNumber, LeftOver}

abbrev pub number_of : Refusal → ℕ
number_of ShortArea = 6
number_of OffScreen = 13
number_of WrongSize = 14
number_of CutShort = 16
number_of WrongNumber = 17
number_of LeftOver = 18
