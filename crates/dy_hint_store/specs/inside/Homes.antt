-- A map of rows for each home.
use Rattle.std.specs.Prelude.{◌≡◌, ℕ, suc, List, [], ◌∷◌, ◌++◌, map, slice_index_or}
use Rattle.std.specs.FinMap as maps
use Rattle.dy_siblings.specs.Siblings.{Siblings}
use Rattle.dy_node_store.specs.Rows.{Rows}

-- the rows for this home, where the n-th map has those for home n
abbrev pub rows_for : List Rows → ℕ → Rows
rows_for homes home = slice_index_or homes home maps.empty

-- entries of one home
abbrev pub entries_for : ℕ → List (List ℕ × Siblings) → List ((ℕ × List ℕ) × Siblings)
entries_for home entries = map (λ e. ((home, e.0), e.1)) entries

-- the entries of the maps, of which the first is this home's
abbrev pub entries_from : ℕ → List Rows → List ((ℕ × List ℕ) × Siblings)
entries_from home [] = []
entries_from home (rows ∷ later) =
    entries_for home (maps.entries rows) ++ entries_from (suc home) later

-- the two have the same rows for each home
abbrev pub HaveSameRows : List Rows → List Rows → Type 0
HaveSameRows homes others = (home : ℕ) → rows_for homes home ≡ rows_for others home
