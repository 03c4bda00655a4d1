-- Decimal numbers of at most nine digits, and sizes.
use Rattle.std.specs.Prelude.{ℕ, ◌+◌, ◌-◌, ◌*◌, cond, ◌&&◌, List, [], ◌∷◌, length, take, drop, Some, None, Option, option_and_then, position, ◌==◌, nat_le, nat_lt}

infixl 10 ◌>>=◌
abbrev ◌>>=◌ : {A B : Type 0} → Option A → (A → Option B) → Option B
o >>= f = option_and_then f o

-- a number with one digit more
abbrev pub with_digit : ℕ → ℕ → Option ℕ
with_digit n c = cond ((nat_le 48 c && nat_le c 57) && nat_lt n 100000000) (Some (n * 10 + (c - 48))) None

-- the number n with the digits of a word behind it
abbrev pub digits_from : Option ℕ → List ℕ → Option ℕ
digits_from None cs = None
digits_from (Some n) [] = Some n
digits_from (Some n) (c ∷ cs) = digits_from (with_digit n c) cs

-- the number that a word names: one digit at least
abbrev pub number_in : List ℕ → Option ℕ
number_in w = cond (length w == 0) None (digits_from (Some 0) w)

-- rows and columns, parted by the first x
abbrev pub size_in : List ℕ → Option (ℕ × ℕ)
size_in w = do
  x ← position (λ c. c == 120) w
  rows ← number_in (take x w)
  columns ← number_in (drop (x + 1) w)
  Some (rows, columns)
