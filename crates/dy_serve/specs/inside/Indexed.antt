-- Which steps of one stretch a session was told.
use Rattle.std.specs.Prelude.{◌≡◌, ◌+◌, ◌-◌, ◌<◌, ◌≤◌, ◌∷◌, [], ℕ}
use Rattle.dy_lines.specs.Sessions.{SessionPlaces, place_by, session_told}
use Rattle.dy_shares.specs.declared.step_numbers.StepNumbers.{StepNumbers}

-- of each of so many steps behind these, the index says whether the session was told it
abbrev pub IsIndexed : ℕ → ℕ → StepNumbers → SessionPlaces → Type 0
IsIndexed before count told index =
    (number : ℕ) → before < number → number ≤ before + count →
    place_by index (number - before) ≡ session_told (told ∷ []) number
