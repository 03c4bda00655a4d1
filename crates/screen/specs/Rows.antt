-- A list laid out in rows of w: what becomes of it when a row is cleared, removed or inserted, where e fills a new row.
use Rattle.std.specs.Prelude.{ℕ, ◌+◌, ◌*◌, List, ◌++◌, length, take, drop, replicate}
use Rattle.std.proofs.Math.Seq.{paste}

-- the row r filled anew
unfoldable pub clear_row : {A : Type 0} → A → ℕ → ℕ → List A → List A
clear_row e w r xs = paste xs (r * w) (replicate w e) w

-- the row r taken out, those below it one up, and a new row at the end
unfoldable pub remove_row : {A : Type 0} → A → ℕ → ℕ → List A → List A
remove_row e w r xs = take (r * w) xs ++ (drop (r * w + w) xs ++ replicate w e)

-- a new row put in at r, those from there on one down, and the last one lost
unfoldable pub insert_row : {A : Type 0} → A → ℕ → ℕ → List A → List A
insert_row e w r xs = take (length xs) (take (r * w) xs ++ (replicate w e ++ drop (r * w) xs))
