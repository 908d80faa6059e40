-- Fetches that are still to be told.
use Rattle.std.specs.Prelude.{◌≤◌, ◌<◌, ℕ, List, [], ◌∷◌, ⊤}

-- the first of these numbers, if there is one, is of a step behind so many, up to the last
abbrev pub IsFirstBetween : ℕ → ℕ → List ℕ → Type 0
IsFirstBetween before last [] = ⊤
IsFirstBetween before last (f ∷ fs) = (before < f) × (f ≤ last)
