-- Lines of answers: what is told, and what waits behind it.
use Rattle.std.specs.Prelude.{◌≡◌, ◌∷◌, [], List, ℕ, Option, None, Some}
use Rattle.dy_core.specs.declared.places.Place.{Place}
use Rattle.dy_node.specs.declared.asks.Ask.{Ask}
use Rattle.dy_node.specs.declared.asks.Answer.{Answer}
use Rattle.dy_transport.specs.Asking.{home_of}
use Rattle.dy_transport.specs.Told.{Told, nothing_told, with_none, with_reply}
use Rattle.dy_transport.specs.declared.lines.Waiting.{Waiting}

-- what a line is seen as: what is told, and the answers that wait to be read, those that are the
-- first to their asks and those that are the second
pub record LineParts (J : Type 0) : Type 0 where
  pub told : Told J
  pub first : List (Waiting J)
  pub second : List (Waiting J)

module _ {J : Type 0} where
  -- at first nothing is told, and nothing waits
  abbrev pub nothing_in_line : ℕ → LineParts J
  nothing_in_line room = record { told = nothing_told room; first = []; second = [] }

  -- the line with this told
  abbrev pub with_told : LineParts J → Told J → LineParts J
  with_told l told = record l { told = told }

  -- an answer that waits for the ask of this number
  abbrev pub waiting_for : ℕ → ℕ → Ask J → Answer J → Waiting J
  waiting_for number to a x =
      record { number = number; node = to; home = home_of a; answer = x }

  -- a later answer, where there is one
  abbrev pub later_for : ℕ → ℕ → Ask J → Option (Answer J) → List (Waiting J)
  later_for number to a None = []
  later_for number to a (Some x) = waiting_for number to a x ∷ []

  -- what is handed on of an answer that waits: its node and home as a place, and what is answered
  abbrev pub handed_on : Waiting J → Place × Answer J
  handed_on w = (record { holder = w.node; home = w.home }, w.answer)

  -- what is read next: the first of the first ones, else the first of the second ones, else none
  abbrev pub IsReadNext : Told J → List (Waiting J) → List (Waiting J) →
      Option (Place × Answer J) → LineParts J → Type 0
  IsReadNext told (w ∷ first) second result new =
      (result ≡ Some (handed_on w))
      × (new.told ≡ with_reply told w.number w.node w.home w.answer)
      × (new.first ≡ first) × (new.second ≡ second)
  IsReadNext told [] (w ∷ second) result new =
      (result ≡ Some (handed_on w))
      × (new.told ≡ with_reply told w.number w.node w.home w.answer)
      × (new.first ≡ []) × (new.second ≡ second)
  IsReadNext told [] [] result new =
      (result ≡ None) × (new.told ≡ with_none told) × (new.first ≡ []) × (new.second ≡ [])
