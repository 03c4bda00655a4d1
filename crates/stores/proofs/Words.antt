-- What writes of the words make of the cells.
use Rattle.std.proofs.Common.{◌≡◌, ℕ, ◌<◌, ◌≤◌, Bool, true, false, List, ◌++◌, map, length, take, drop, set, replicate, ap, ◌∙◌, arith, rules}
use lib.Seq.{take-set-lt}
use Rattle.std.proofs.lemmas.List.{places, ext_get_or, map-set}
use Rattle.codes.specs.Ascii.{SPACE}
use Rattle.screen.specs.Cells.{cell, blank}
use Rattle.screen.proofs.Cells.{space_storable}
use Rattle.stores.specs.Words.{word_of, cell_of, cells_in, AllStorable, length_cells_in, get_or_cells_in}

pub word_cell : (c : ℕ) (m : Bool) → c < 256 → cell_of (word_of c m) ≡ cell c m
word_cell c true l = grind arith
word_cell c false l = grind arith

pub set_cells_in : (n : ℕ) (ws : List ℕ) (k v : ℕ) → k < n → cells_in n (set ws k v) ≡ set (cells_in n ws) k (cell_of v)
unfolding cells_in
set_cells_in n ws k v l = ap (map cell_of) (take-set-lt n ws k v l) ∙ map-set cell_of (take n ws) k v

-- the cells that the words show
pub ruleset shown = (length_cells_in, get_or_cells_in, set_cells_in)

-- a new store: its words are spaces
pub new_held : (n : ℕ) (ws vs : List ℕ) (v : ℕ) → n ≤ length ws → v ≡ SPACE → vs ≡ replicate (length (take n ws)) v → (n ≤ length (vs ++ drop n ws)) × AllStorable n (vs ++ drop n ws)
new_held n ws vs v l s e = (grind (arith, places), λ k b. grind (arith, places, space_storable))

pub new_cells : (n : ℕ) (ws vs : List ℕ) (v : ℕ) → n ≤ length ws → v ≡ SPACE → vs ≡ replicate (length (take n ws)) v → cells_in n (vs ++ drop n ws) ≡ replicate n blank
new_cells n ws vs v l s e =
    let long = length_cells_in n (vs ++ drop n ws) (new_held n ws vs v l s e).0 in
    ext_get_or blank _ _ (long ∙ search (rules, places)) (λ k b. grind (arith, places, get_or_cells_in))
