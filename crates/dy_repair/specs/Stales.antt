-- Which answers of a get are stale (Dynamo, section 5).
use Rattle.std.specs.Prelude.{◌≡◌, ◌↔◌, List, Bool, IsTrue}
use Rattle.std.specs.List.{All, filter}
use Rattle.dy_siblings.specs.Siblings.{Siblings}
use Rattle.dy_core.specs.Logs.{Answer}

-- a home answered by itself, with another row than this
pub record IsStale (row : Siblings) (a : Answer) : Type 0 where
  pub own : a.holder ≡ a.home
  pub other : record { key = a.key; versions = a.row } ≡ row → ⊥

-- none of the answers is stale
abbrev pub AreCurrent : Siblings → List Answer → Type 0
AreCurrent row answers = All (λ a. ¬ (IsStale row a)) answers

-- these are the stale ones among the answers, in their order: what a test keeps that tells them
pub record AreStale (row : Siblings) (answers stale : List Answer) : Type 0 where
  pub is_stale : Answer → Bool
  pub tells : (a : Answer) → IsTrue (is_stale a) ↔ IsStale row a
  pub kept : stale ≡ filter is_stale answers
