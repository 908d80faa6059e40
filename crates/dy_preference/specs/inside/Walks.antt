-- The walk round the ring.
use Rattle.std.specs.Prelude.{ℕ, ◌==◌, List, [], ◌∷◌, ◌++◌, if◌then◌else◌}
use Rattle.std.specs.List.{list_any}

-- the nodes met before, and then each node of the tokens when it is first met
abbrev pub met : List ℕ → List (ℕ × ℕ) → List ℕ
met nodes [] = nodes
met nodes (t ∷ ts) =
    if list_any (λ n. n == t.1) nodes then met nodes ts else met (nodes ++ t.1 ∷ []) ts
