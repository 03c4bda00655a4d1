-- A reply is written over the front of an area.
use Rattle.std.proofs.Common.{◌≡◌, ℕ, ◌≤◌, List, ◌++◌, length, take, drop, sym, ap, ◌∙◌, arith, length-append}
use Rattle.std.proofs.lemmas.List.{append_assoc, length-take-le, length-drop, drop-append-le, take-append-drop}
use lib.Seq.{take-append_seam}
use Rattle.area.specs.Over.{over}

-- what is written over an area stands at its front
pub written_first : (octets area : List ℕ) → take (length octets) (over octets area) ≡ octets
written_first octets area = take-append_seam octets (drop (length octets) area)

-- what is written over its first n octets, which stay n, is written over the whole
pub written_over : (n : ℕ) (octets area room front : List ℕ) → n ≤ length area → room ≡ take n area → length front ≡ length room → front ≡ over octets room
    → front ++ drop n area ≡ over octets area
written_over n octets area room front enough first count e =
    let whole : front ≡ over octets (take n area) = e ∙ ap (over octets) first in
    let counts : length front ≡ n = count ∙ ap length first ∙ length-take-le n area enough in
    let fits : length octets ≤ length (take n area) = grind (arith, length-append, length-take-le, length-drop) in
    ap (λ xs. xs ++ drop n area) whole ∙ append_assoc octets (drop (length octets) (take n area)) (drop n area)
    ∙ ap (λ xs. octets ++ xs) (sym (drop-append-le (length octets) (take n area) (drop n area) fits) ∙ ap (drop (length octets)) (take-append-drop n area))
