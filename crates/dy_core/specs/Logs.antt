-- Logs: lists of steps, the worlds after them, and the gets that match them.
use Rattle.std.specs.Prelude.{◌≡◌, ℕ, ◌<◌, ◌≤◌, IsTrue, ◌-◌, nat_eq, take, Some, slice_get, length}
use Rattle.std.specs.Prelude.{List, [], ◌∷◌, ◌++◌, map, refl}
use Rattle.std.specs.List.{All, IsDistinct, Contains}
use Rattle.std.specs.FinSet as set
use Rattle.std.specs.Coded.{Coded, coded×, coded_ℕ, coded_list, code_by}
use Rattle.dy_siblings.specs.Versions.{in_history}
use Rattle.dy_siblings.specs.Siblings.{IsSameRow}
use Rattle.dy_ring.specs.Rings.{Tokens, tokens_code}
use Rattle.dy_preference.specs.Preferences.{is_home}
use Rattle.dy_core.specs.Worlds.{Layout, World, empty_world, row_at}
use Rattle.dy_core.specs.Steps.{IsAllowed, place_for, world_after_step}
use Rattle.dy_dots.specs.declared.dots.Dot.{Dot}
use Rattle.dy_siblings.specs.declared.versions.Version.{Version}
use Rattle.dy_core.specs.contracts.steps.Step as step
use Rattle.dy_core.specs.declared.steps.Step.{Step}
use Rattle.dy_core.specs.declared.steps.Step.TheVariants.{Fetch}

-- the world after these steps, from a world
abbrev pub world_from : World → List Step → World
world_from w [] = w
world_from w (s ∷ ss) = world_from (world_after_step w s) ss

-- the world after a log, which is a list of steps
abbrev pub world_after : List Step → World
world_after ss = world_from empty_world ss

-- each of the steps is allowed where it stands, from a world
abbrev pub IsLegalFrom : Layout → World → List Step → Type 0
IsLegalFrom layout w [] = Unit {0}
IsLegalFrom layout w (s ∷ ss) = IsAllowed layout w s × IsLegalFrom layout (world_after_step w s) ss

-- a log is legal: each of its steps is allowed in the world after those before it
abbrev pub IsLegal : Layout → List Step → Type 0
IsLegal layout ss = IsLegalFrom layout empty_world ss

-- the dot is of a version of the list, of v's key, whose history lies in v's past
pub record Known (vs : List Version) (v : Version) (d : Dot) : Type 0 where
  pub version : Version
  pub in_list : Contains vs version
  pub key_is : version.key ≡ v.key
  pub dot_is : version.dot ≡ d
  pub history_in : (e : Dot) → IsTrue (in_history version e) → IsTrue (set.contains v.past e)

-- an answer to a get: the row that a holder gave for a home and a key, and the number of its step,
-- from 1
pub record Answer : Type 0 where
  pub at : ℕ
  pub holder : ℕ
  pub home : ℕ
  pub key : List ℕ
  pub row : List Version

-- the step of the answer's number is that fetch, with that row
pub record IsAnswer (steps : List Step) (a : Answer) : Type 0 where
  pub from_one : 1 ≤ a.at
  pub is_fetch : slice_get steps (a.at - 1) ≡ Some (Fetch (place_for a.holder a.home) a.key)
  pub is_row : IsSameRow a.row (row_at (world_after (take (a.at - 1) steps)) a.holder a.home a.key)

-- the versions of all the answers
abbrev pub rows_of : List Answer → List Version
rows_of [] = []
rows_of (a ∷ rest) = a.row ++ rows_of rest

-- a get of a key matches the log: r answers of distinct homes, each of them a fetch of the log with
-- that row, after the first steps, of which there are `since` (Dynamo, section 4.5)
pub record MatchesLog (steps : List Step) (key : List ℕ) (r : ℕ) (since : ℕ)
    (answers : List Answer) : Type 0 where
  pub count_is : length answers ≡ r
  pub each_is : All (IsAnswer steps) answers
  pub each_later : All (λ a. since < a.at) answers
  pub each_key : All (λ a. a.key ≡ key) answers
  pub homes_distinct : IsDistinct nat_eq (map (λ a. a.home) answers)

-- each answer is of one of these homes, which holds for itself
abbrev pub AreOfHomes : List ℕ → List Answer → Type 0
AreOfHomes homes answers = All (λ a. IsTrue (is_home homes a.home) × (a.holder ≡ a.home)) answers

-- each home that answered, within so many steps, is among those that answer later
abbrev pub AnswerAgain : List Answer → ℕ → List Answer → Type 0
AnswerAgain first since later =
    All (λ a. (a.at ≤ since) × Contains (map (λ b. b.home) later) a.home) first

-- what a world of `src/` is seen as: its ring, how many homes a key has, and its steps
pub record Log : Type 0 where
  pub ring : Tokens
  pub n : ℕ
  pub steps : List Step

-- the log with a step at its end
abbrev pub with_step : Log → Step → Log
with_step log s = record log { steps = log.steps ++ s ∷ [] }

-- the code of a log
abbrev pub log_code : Coded Log
log_code =
    code_by (Tokens × (ℕ × List Step))
    (coded× tokens_code (coded× coded_ℕ (coded_list step.the_row.coded)))
    (λ h. (h.ring, (h.n, h.steps)))
    (λ p. record { ring = p.0; n = p.1.0; steps = p.1.1 })
    (λ _. refl)
