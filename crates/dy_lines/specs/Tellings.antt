-- The lines that tell which fetches the gets of sessions used.
use Rattle.std.specs.Prelude.{◌≡◌, ℕ, List, length, map}
use Rattle.std.specs.List.{All, flat_map}
use Rattle.dy_shares.specs.Shares.{GetTold, SessionPart, answer_numbers}
use Rattle.dy_shares.specs.declared.step_numbers.StepNumbers.{StepNumbers}
use Rattle.dy_book.specs.Audits.{AreTold}
use Rattle.dy_lines.specs.Steps.{told_text}
use Rattle.dy_lines.specs.Texts.{line}

-- a get by the fetches that it used, and its session
abbrev pub get_line : ℕ → GetTold → List ℕ
get_line session g = line (told_text (map (λ a. a.at) g.answers) session)

-- the gets that a session was told, with its number
abbrev pub session_lines : ℕ × SessionPart → List ℕ
session_lines s = flat_map (get_line s.0) s.1.gets

-- the get used so many fetches
abbrev pub Uses : ℕ → GetTold → Type 0
Uses r g = length g.answers ≡ r

-- these are the numbers of the fetches that these gets used, so many each
pub record AreFetchesOf (r : ℕ) (numbers : List ℕ) (gets : List GetTold) : Type 0 where
  pub numbers_are : numbers ≡ answer_numbers gets
  pub uses : All (Uses r) gets

-- these are the numbers that these sessions were told, whose gets used so many fetches each
pub record AreToldBy (r : ℕ) (told : List StepNumbers) (tellings : List SessionPart) : Type 0 where
  pub told_are : AreTold told tellings
  pub uses : All (λ s. All (Uses r) s.gets) tellings
