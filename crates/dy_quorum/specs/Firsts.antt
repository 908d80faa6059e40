-- The first of each home, in a list whose elements have homes.
use Rattle.std.specs.Prelude.{◌≡◌, ◌≤◌, ◌++◌, ◌∷◌, [], List, ℕ, length, map, nat_eq}
use Rattle.std.specs.Prelude.{if◌then◌else◌}
use Rattle.std.specs.List.{All, AllPairs, Contains, list_any, fold}

module _ {A : Type 0} where
  -- with x at the end, where none of its home is there
  abbrev pub with_first : (A → ℕ) → List A → A → List A
  with_first home fs x =
      if list_any (λ h. nat_eq h (home x)) (map home fs) then fs else fs ++ x ∷ []

  -- the first of each home, in their order
  abbrev pub firsts_by : (A → ℕ) → List A → List A
  firsts_by home xs = fold (with_first home) [] xs

  -- these are the first of each home: among all, of each home, of distinct homes
  pub record AreFirstsBy (home : A → ℕ) (xs fs : List A) : Type 0 where
    pub among : All (λ x. Contains xs x) fs
    pub cover : All (λ x. Contains (map home fs) (home x)) xs
    pub homes : AllPairs (λ x y. home x ≡ home y → ⊥) fs
    pub few : length fs ≤ length xs
