use Rattle.std.proofs.Common.{◌≡◌, ℕ, sym, ap, ◌∙◌, rules}
use base.Fml.{GName}
use Rattle.screen.specs.Grid.{Grid}
use Rattle.window.specs.Part.{outside}
use Rattle.screen_tests.proofs.stacks.in_window.Goals as goal

pub returns : goal.returns
returns g c =
    let S = g.S.Screen in
    let T = GName × (S.Rest × ((ℕ × ℕ) × Grid)) in
    let e = c.turned.ensures.rest in
    let made = c.new-window.result.below.now in
    let after = c.turned.new.screen.below.now in
    let n : c.turned.new.screen.below.ghost_name ≡ c.new-window.result.below.ghost_name = ap (λ (x : T). x.0) e in
    let back : c.screen-1.given.0 ≡ after = search rules in
    let same : made ≡ c.args.screen.now = c.new-window.ensures.below in
    let size = c.in_ok-extent.ensures in
    let rows : c.new-window.result.rows ≡ c.args.rows = c.new-window.ensures.rows ∙ size.1 in
    let columns : c.new-window.result.columns ≡ c.args.columns = c.new-window.ensures.columns ∙ size.2 in
    let rows' : c.turned.new.screen.rows ≡ c.args.rows = ap (λ (x : T). x.1.1.0.0) e ∙ rows in
    let columns' : c.turned.new.screen.columns ≡ c.args.columns = ap (λ (x : T). x.1.1.0.1) e ∙ columns in
    let outer : outside c.args.rows c.args.columns (S.grid after) ≡ outside c.args.rows c.args.columns (S.grid made) =
    ap (λ x. outside x c.args.columns (S.grid after)) (sym rows')
    ∙ ap (λ x. outside c.turned.new.screen.rows x (S.grid after)) (sym columns')
    ∙ ap (λ (x : T). x.1.1.1) e
    ∙ ap (λ x. outside x c.new-window.result.columns (S.grid made)) rows
    ∙ ap (λ x. outside c.args.rows x (S.grid made)) columns in
    record {
      rest = ap S.rest back ∙ ap (λ (x : T). x.1.0) e ∙ ap S.rest same;
      size = record { rows = ap (λ x. (S.grid x).rows) back ∙ ap (λ (x : Grid). x.rows) outer ∙ ap (λ x. (S.grid x).rows) same; columns = ap (λ x. (S.grid x).columns) back ∙ ap (λ (x : Grid). x.columns) outer ∙ ap (λ x. (S.grid x).columns) same };
      outside = ap (λ x. outside c.args.rows c.args.columns (S.grid x)) back ∙ outer ∙ ap (λ x. outside c.args.rows c.args.columns (S.grid x)) same;
    }
