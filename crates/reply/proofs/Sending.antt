-- A reply's octets, part by part.
use Rattle.std.proofs.Common.{◌≡◌, ℕ, ◌+◌, List, [], ◌∷◌, ◌++◌, length, sym, refl, ap, ◌∙◌, arith, length-append}
use lib.Bits.{bit_xor, xor_assoc, xor_zero_l}
use Rattle.std.proofs.lemmas.List.{append_assoc, map-append, length-map}
use Rattle.line.specs.Kind.{Kind}
use Rattle.receiver.specs.Check.{block_check}
use Rattle.area.specs.Over.{written_at}
use Rattle.area.proofs.Areas.{over_written}
use Rattle.reply.specs.declared.begun.Begun.{Begun}
use Rattle.reply.specs.Octets.{octets, so_far}
use Rattle.reply.specs.Steps.{begun, closed}
use Rattle.reply.specs.Progress.{Holds, Shows}

-- the check of characters in two parts
pub check_append : (xs ys : List ℕ) → block_check (xs ++ ys) ≡ bit_xor (block_check xs) (block_check ys)
check_append [] ys = sym (xor_zero_l (block_check ys))
check_append (x ∷ xs) ys = ap (bit_xor x) (check_append xs ys) ∙ sym (xor_assoc x (block_check xs) (block_check ys))

-- the octets of what was sent, and of what follows
pub so_far_append : (k : Kind) (first sent cs : List ℕ) → so_far k first sent ++ octets k cs ≡ so_far k first (sent ++ cs)
so_far_append k first sent cs = simp (append_assoc, map-append)

-- characters more, and the check
module _ (k : Kind) (before first sent : List ℕ) (b : Begun) (area after : List ℕ) (h : Holds k before first sent b area) where
  pub extends : (cs : List ℕ) (place sum : ℕ) → place ≡ b.place + length cs → sum ≡ bit_xor b.sum (block_check cs)
      → after ≡ written_at area b.place (octets k cs) → Holds k before first (sent ++ cs) (begun place sum) after
  extends cs place sum p s w =
      let joined = over_written (so_far k first sent) (octets k cs) before in
      let all = so_far_append k first sent cs in
      let long : length (so_far k first sent ++ octets k cs) ≡ length (so_far k first sent) + length cs = simp (length-append, length-map) in
      let sums = check_append sent cs in
      record { place = omega (arith, ap length all); sum = cc; octets = cc }

  pub shows : (count : ℕ) → count ≡ b.place + 1 → after ≡ written_at area b.place (octets k (b.sum ∷ []))
      → Shows k before first sent (closed count) after
  shows count p w =
      let check = ap (λ s. written_at area b.place (octets k (s ∷ []))) h.sum in
      let x = extends (block_check sent ∷ []) count (bit_xor b.sum (block_check (block_check sent ∷ []))) p refl (w ∙ check) in
      record { count = x.place; octets = x.octets }
