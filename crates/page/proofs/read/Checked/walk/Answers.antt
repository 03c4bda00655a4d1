use Rattle.std.proofs.Common.{◌≡◌, ◌*◌, [], Ok, sym, ap, ◌∙◌}
use Rattle.std.proofs.lemmas.Bool.{eqb-true}
use Rattle.page.specs.Numbers.{read}
use Rattle.page.specs.Pages.{header_in, cells_in, page_in}
use Rattle.page.specs.Checks.{page_of}
use Rattle.page.specs.Walk.{rest_of}
use Rattle.page.proofs.Inversions.{then_ok, ends_whole}
use Rattle.page.proofs.Trips.{same_octets}
use Rattle.page.proofs.read.Checked.walk.Goals as goal

pub returns : goal.returns
returns c =
    let os = c.args.octets.now in
    let h = c.in_ok-header.header in
    let rest = rest_of c.header.new.self in
    let head : header_in os ≡ Ok (read h rest) = ap header_in (sym c.new-reader.ensures) ∙ c.in_ok-header.ensures.reads in
    let all = ends_whole (cells_in (h.rows * h.columns) rest) (rest_of c.skip_cells.new.self) c.in_ok-skip_cells.ensures
    (eqb-true _ _ (sym c.if-not-is_at_end.ensures)) in
    let cells : cells_in (h.rows * h.columns) rest ≡ Ok (read all.0 []) = all.1 in
    let whole : page_in os ≡ Ok (page_of h all.0) = then_ok (header_in os) (read h rest) _ head ∙ then_ok _ (read all.0 []) _ cells in
    record {
      cells = all.0;
      whole = whole;
      ahead = cells;
      same = same_octets os (page_of h all.0) (λ i. (c.type_inv.octets i).fits) whole;
      few_rows = c.in_ok-header.ensures.size.0;
      few_columns = c.in_ok-header.ensures.size.1;
    }
