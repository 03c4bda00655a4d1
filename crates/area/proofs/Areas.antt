-- Octets written over an area one after another.
use Rattle.std.proofs.Common.{◌≡◌, ℕ, ◌+◌, List, ◌++◌, length, drop, sym, refl, ap, ◌∙◌, length-append}
use Rattle.std.proofs.lemmas.List.{append_assoc, take_at, drop_at, drop-drop}
use Rattle.area.specs.Over.{over, written_at}

-- what is written behind octets that stand there goes on with them
pub over_written : (xs ys a : List ℕ) → written_at (over xs a) (length xs) ys ≡ over (xs ++ ys) a
over_written xs ys a =
    let n = length xs in
    ap (λ f. f ++ over ys (drop n (over xs a))) (take_at xs (drop n a) n refl)
    ∙ ap (λ d. xs ++ over ys d) (drop_at xs (drop n a) n refl)
    ∙ ap (λ d. xs ++ (ys ++ d)) (drop-drop (length ys) n a)
    ∙ sym (append_assoc xs ys (drop (n + length ys) a))
    ∙ ap (λ m. (xs ++ ys) ++ drop m a) (sym (length-append xs ys))
