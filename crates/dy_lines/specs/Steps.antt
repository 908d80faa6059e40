-- The lines that tell the steps of a log, and which fetches a get used.
use Rattle.std.specs.Prelude.{ℕ, List, [], ◌∷◌, ◌++◌, codes, decimal, Option, Some, None}
use Rattle.dy_dots.specs.Dots.{dot_text}
use Rattle.dy_dots.specs.Spelling.{context_text, run_text}
use Rattle.dy_core.specs.declared.places.Place.{Place}
use Rattle.dy_shares.specs.declared.kept_steps.KeptStep.{KeptStep}
use Rattle.dy_shares.specs.declared.kept_steps.KeptStep.TheVariants.{Issued, Held, HeldRuns}
use Rattle.dy_shares.specs.declared.kept_steps.KeptStep.TheVariants.{Released, Fetched, Acked}
use Rattle.dy_lines.specs.Places.{place_text}
use Rattle.dy_lines.specs.Texts.{hex_text, listed_text}

-- what a version stores: its bytes, behind a blank where there are some, or that it is a deletion
abbrev pub written_text : Option (List ℕ) → List ℕ
written_text None = codes "deleted"
written_text (Some []) = codes "value"
written_text (Some (b ∷ bs)) = codes "value " ++ hex_text (b ∷ bs)

-- a place and a key
abbrev pub row_text : Place → List ℕ → List ℕ
row_text p key = place_text p ++ codes " " ++ hex_text key

-- what is kept of a step; an ack is told with its session
abbrev pub kept_text : ℕ → KeptStep → List ℕ
kept_text session (Issued v) =
    codes "issue " ++ decimal v.dot.node ++ codes " " ++ hex_text v.key
    ++ codes " " ++ dot_text v.dot ++ codes " behind " ++ context_text v.past
    ++ codes " " ++ written_text v.value
kept_text session (Held p run key) =
    codes "hold " ++ row_text p key
    ++ codes " n" ++ decimal run.node ++ codes ":" ++ run_text run
kept_text session (HeldRuns p key dots) =
    codes "hold " ++ row_text p key ++ codes " " ++ context_text dots.value
kept_text session (Released p d key) =
    codes "release " ++ row_text p key ++ codes " " ++ dot_text d
kept_text session (Fetched p key) = codes "fetch " ++ row_text p key
kept_text session (Acked w d key) =
    codes "ack " ++ hex_text key ++ codes " " ++ dot_text d ++ codes " w " ++ decimal w
    ++ codes " session " ++ decimal session

-- the step's number, and the step
abbrev pub step_text : ℕ → ℕ → KeptStep → List ℕ
step_text number session kept =
    codes "step " ++ decimal number ++ codes " " ++ kept_text session kept

-- numbers stand each behind a blank
abbrev pub numbers_text : List ℕ → List ℕ
numbers_text numbers = listed_text decimal numbers

-- the fetches that an answered get used, by their numbers, and its session
abbrev pub told_text : List ℕ → ℕ → List ℕ
told_text fetches session =
    codes "told" ++ numbers_text fetches ++ codes " session " ++ decimal session
