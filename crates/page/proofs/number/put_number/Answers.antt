use Rattle.std.proofs.Common.{◌≡◌, suc, ◌+◌, ◌/◌, ◌%◌, [], ◌∷◌, length, set, sym, ap, ◌∙◌, arith}
use Rattle.area.specs.Over.{written_at}
use Rattle.page.proofs.Numerals.{small_number, large_number}
use Rattle.page.proofs.Writing.{written_by_sets}
use Rattle.page.proofs.number.put_number.Goals as goal

pub returns-then-n-lt128-clause-area : goal.returns-then-n-lt128-clause-area
returns-then-n-lt128-clause-area c =
    let n = c.args.n in
    let p = c.args.place in
    let one = small_number n (omega arith) in
    written_by_sets c.args.area.now p (n ∷ []) (omega (arith, ap length one)) ∙ ap (written_at c.args.area.now p) (sym one)

pub returns-clause-area : goal.returns-clause-area
returns-clause-area c =
    let n = c.args.n in
    let p = c.args.place in
    let two = large_number n (omega arith) in
    let next : p + 1 ≡ suc p = omega arith in
    ap (λ k. set (set c.args.area.now p (128 + n % 128)) k (n / 128)) next
    ∙ written_by_sets c.args.area.now p ((128 + n % 128) ∷ (n / 128) ∷ []) (omega (arith, ap length two))
    ∙ ap (written_at c.args.area.now p) (sym two)
