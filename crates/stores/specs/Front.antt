-- What is done to the first part of a list, and leaves the rest.
use Rattle.std.specs.Prelude.{ℕ, List, ◌++◌, take, drop}

-- f on the first n, with the rest as it was
abbrev pub in_front : {A : Type 0} → ℕ → (List A → List A) → List A → List A
in_front n f xs = f (take n xs) ++ drop n xs
