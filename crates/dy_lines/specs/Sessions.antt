-- Which session was told which step.
use Rattle.std.specs.Prelude.{◌≡◌, ◌==◌, ◌<◌, ◌≤◌, ◌||◌, ℕ, Bool, List, get_or, length, refl}
use Rattle.std.specs.Coded.{Coded, code_by, coded×, coded_ℕ, coded_list}
use Rattle.std.specs.List.{list_any, position_or_len}
use Rattle.dy_shares.specs.declared.step_numbers.StepNumbers.{StepNumbers}

-- whether a session with these numbers was told the step of this number, as an ack or an answer
abbrev pub was_told : ℕ → StepNumbers → Bool
was_told number n =
    list_any (λ x. x == number) n.acks.items || list_any (λ x. x == number) n.fetches.items

-- the place of the first session that was told the step, or how many there are where none was
abbrev pub session_told : List StepNumbers → ℕ → ℕ
session_told told number = position_or_len (was_told number) told

-- what an index is seen as: by the number of a step a place among sessions, and how many sessions
-- there are
pub record SessionPlaces : Type 0 where
  pub places : List ℕ
  pub count : ℕ

-- it is stored as the pair of both
abbrev pub session_places_code : Coded SessionPlaces
session_places_code =
    code_by (List ℕ × ℕ) (coded× (coded_list coded_ℕ) coded_ℕ)
    (λ s. (s.places, s.count)) (λ p. record { places = p.0; count = p.1 }) (λ _. refl)

-- the place by this number, or how many sessions there are where the index does not go so far
abbrev pub place_by : SessionPlaces → ℕ → ℕ
place_by index number = get_or index.places number index.count

-- by each number up to that of the last step stands the session that was told it, and none by a
-- later one
pub record HasSessions (steps : ℕ) (told : List StepNumbers) (index : SessionPlaces) : Type 0 where
  pub within : (number : ℕ) → number ≤ steps → place_by index number ≡ session_told told number
  pub past : (number : ℕ) → steps < number → place_by index number ≡ length told
