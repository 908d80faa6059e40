-- What the making of a ring goes through.
use Rattle.std.specs.Prelude.{ℕ, ◌+◌, ◌==◌, if◌then◌else◌, Option, Some, None}
use Rattle.std.specs.Prelude.{List, [], ◌∷◌, ◌++◌, map}

-- each token of the lists with its node, of which the first is this one
abbrev pub pairs_from : ℕ → List (List ℕ) → List (ℕ × ℕ)
pairs_from node [] = []
pairs_from node (list ∷ lists) =
    map (λ position. (position, node)) list ++ pairs_from (node + 1) lists

-- the first position that stands twice in a row, where `last` stands before the tokens
abbrev pub clash_after : ℕ → List (ℕ × ℕ) → Option ℕ
clash_after last [] = None
clash_after last (t ∷ ts) = if t.0 == last then Some last else clash_after t.0 ts

-- the first position that stands twice in a row
abbrev pub clash_of : List (ℕ × ℕ) → Option ℕ
clash_of [] = None
clash_of (t ∷ ts) = clash_after t.0 ts
