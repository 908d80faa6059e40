-- Which session of a script lies where among those that a cluster opened.
use Rattle.std.specs.Prelude.{◌≡◌, ◌==◌, ◌<◌, ◌++◌, ◌∷◌, ◌⊎◌, ◌↔◌, [], ℕ, Bool, false, List}
use Rattle.std.specs.Prelude.{Some, length}
use Rattle.std.specs.Prelude.{slice_get, slice_set}
use Rattle.std.specs.List.{position_or_len}
use Rattle.dy_shares.specs.Shares.{SessionPart}

-- the sessions of a script, in the order of their opening: their numbers, and what each was told;
-- and whether the one that was asked for last could not be opened
pub record Seated : Type 0 where
  pub numbers : List ℕ
  pub tellings : List SessionPart
  pub refused : Bool

-- where the session of this number is among those opened, or where it is to be opened
abbrev pub seat_of : ℕ → List ℕ → ℕ
seat_of number numbers = position_or_len (λ n. n == number) numbers

-- the session of this number is open: it has a place
abbrev pub IsOpen : ℕ → List ℕ → Type 0
IsOpen number numbers = seat_of number numbers < length numbers

-- the numbers of the sessions that are opened are those that were, or this one behind them, which
-- was not among them
abbrev pub IsOpened : ℕ → List ℕ → List ℕ → Type 0
IsOpened number before after =
    (after ≡ before)
    ⊎ ((seat_of number before ≡ length before) × (after ≡ before ++ number ∷ []))

-- the session of this number was open or was opened, or else it was refused; and each number has
-- its session
pub record OpensSession (number : ℕ) (before after : Seated) : Type 0 where
  pub opened : IsOpened number before.numbers after.numbers
  pub is_open : IsOpen number after.numbers ↔ (after.refused ≡ false)
  pub together : length after.numbers ≡ length after.tellings

-- the sessions are those that were there, or one that was told nothing was opened behind them
abbrev pub IsSeated : List SessionPart → List SessionPart → Type 0
IsSeated before after =
    (after ≡ before)
    ⊎ ((session : SessionPart) × (after ≡ before ++ session ∷ [])
    × (session.acks ≡ []) × (session.gets ≡ []))

-- the session at this place was told so, after it was opened if it was not there, and no other
-- session was told anything
pub record IsToldAt (place : ℕ) (before after : List SessionPart)
    (Tells : SessionPart → SessionPart → Type 0) : Type 0 where
  pub seated : List SessionPart
  pub opened : IsSeated before seated
  pub old : SessionPart
  pub old_is : slice_get seated place ≡ Some old
  pub new : SessionPart
  pub after_is : after ≡ slice_set seated place new
  pub tells : Tells old new
