-- What is held, in a list for each holder.
use Rattle.std.specs.Prelude.{◌≡◌, ◌↔◌, ◌⊎◌, ℕ, ◌+◌, ◌<◌, ltb, List, [], ◌∷◌, length}
use Rattle.std.specs.Prelude.{slice_index_or}
use Rattle.std.specs.List.{Contains, filter}
use Rattle.dy_dots.specs.declared.nodes.TheConstants.{MAX_NODES}
use Rattle.dy_core.specs.declared.holdings.Holding.{Holding}

-- the list of a holder
abbrev pub list_of : List (List Holding) → ℕ → List Holding
list_of lists n = slice_index_or lists n []

-- the lists have what is held by this node, by the next one, and so on to the last holder
abbrev pub AreByHolder : ℕ → List Holding → List (List Holding) → Type 0
AreByHolder n hs [] = (h : Holding) → Contains hs h → h.holder < n
AreByHolder n hs (l ∷ ls) =
    ((h : Holding) → Contains l h ↔ (Contains hs h × (h.holder ≡ n))) × AreByHolder (n + 1) hs ls

-- what is held by the nodes before this one
abbrev pub held_below : ℕ → List Holding → List Holding
held_below n hs = filter (λ h. ltb h.holder n) hs

-- the lists have what is held, but for the rest
pub record AreFilled (hs rest : List Holding) (lists : List (List Holding)) : Type 0 where
  pub many : length lists ≡ MAX_NODES
  pub within : (h : Holding) → Contains rest h → Contains hs h
  pub own : (n : ℕ) (h : Holding) → Contains (list_of lists n) h →
      Contains hs h × (h.holder ≡ n)
  pub every : (h : Holding) → Contains hs h →
      Contains rest h ⊎ Contains (list_of lists h.holder) h
