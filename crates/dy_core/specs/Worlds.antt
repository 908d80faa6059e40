-- Worlds: which versions were made, and who holds which of them for whom.
use Rattle.std.specs.Prelude.{◌≡◌, ℕ, Bool, ◌&&◌, false, IsTrue, List, []}
use Rattle.std.specs.List.{list_any, filter, All, Contains}
use Rattle.dy_dots.specs.Dots.{same_dot}
use Rattle.dy_siblings.specs.Siblings.{same_key}
use Rattle.dy_ring.specs.Rings.{Tokens}
use Rattle.dy_preference.specs.Preferences.{homes_of}
use Rattle.dy_dots.specs.declared.dots.Dot.{Dot}
use Rattle.dy_siblings.specs.declared.versions.Version.{Version}
use Rattle.dy_core.specs.declared.acks.Acked.{Acked}

-- which nodes are the homes of each key, and how many homes a key has (Dynamo, section 4.3)
pub record Layout : Type 0 where
  pub homes : List ℕ → List ℕ
  pub count : ℕ

-- the homes of a key are the first n nodes of its preference list (Dynamo, section 4.3)
abbrev pub layout_of : Tokens → ℕ → Layout
layout_of ring n = record { homes = homes_of ring n; count = n }

-- a world: the versions made, newest first; whether a holder holds a dot of a key for a home; the
-- last counter that a node used for a key; and the acks, newest first (Dynamo, sections 4.4 to 4.6)
pub record World : Type 0 where
  pub versions : List Version
  -- of a holder, a home, a key and a dot
  pub holdings : ℕ → ℕ → List ℕ → Dot → Bool
  -- of a node and a key
  pub counters : ℕ → List ℕ → ℕ
  pub acks : List Acked

-- at first nothing is made, held, counted or acknowledged
abbrev pub empty_world : World
empty_world = record {
  versions = [];
  holdings = λ _ _ _ _. false;
  counters = λ _ _. 0;
  acks = [];
}

-- whether a version of this key and dot was made
abbrev pub is_issued : List Version → List ℕ → Dot → Bool
is_issued vs key d = list_any (λ v. same_key v.key key && same_dot v.dot d) vs

-- each of the versions was made, and is of the key
abbrev pub AreMadeOf : World → List ℕ → List Version → Type 0
AreMadeOf w key vs = All (λ v. (v.key ≡ key) × Contains w.versions v) vs

-- the row at a place: the versions of the key that the holder holds for the home
-- (Dynamo, section 4.6)
abbrev pub row_at : World → ℕ → ℕ → List ℕ → List Version
row_at w holder home key =
    filter (λ v. same_key v.key key && w.holdings holder home key v.dot) w.versions

-- a key is settled where each holder of it is the home that it holds for: no hint is outstanding
-- (Dynamo, section 4.6)
abbrev pub IsSettled : World → List ℕ → Type 0
IsSettled w key =
    (holder home : ℕ) (d : Dot) → IsTrue (w.holdings holder home key d) → holder ≡ home
