-- What follows of a character that a cell holds.
use Rattle.std.proofs.Common.{◌≡◌, ℕ, ◌<◌, true, refl, arith}
use Rattle.std.proofs.lemmas.Bool.Decides.{nat_tests}
use Rattle.codes.specs.Ascii.{STX, ETX, DLE, SPACE}
use Rattle.screen.specs.Cells.{storable}

pub space_storable : storable SPACE ≡ true
unfolding storable
space_storable = refl

-- it has seven bits
pub storable_seven : (c : ℕ) → storable c ≡ true → c < 128
unfolding storable
storable_seven c h = grind (arith, nat_tests)

-- it is none of the characters that divide a message
pub storable_text : (c : ℕ) → storable c ≡ true → (c ≡ STX → ⊥) × (c ≡ ETX → ⊥) × (c ≡ DLE → ⊥)
unfolding storable
storable_text c h = (λ e. grind (arith, nat_tests), λ e. grind (arith, nat_tests), λ e. grind (arith, nat_tests))
