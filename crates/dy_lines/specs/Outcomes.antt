-- The lines that tell what came of commands.
use Rattle.std.specs.Prelude.{ℕ, List, [], ◌++◌, codes, decimal, Bool, if◌then◌else◌}
use Rattle.std.specs.Prelude.{Option, Some, None, is_some}
use Rattle.std.specs.List.{flat_map, list_any}
use Rattle.dy_dots.specs.Dots.{dot_text}
use Rattle.dy_dots.specs.Spelling.{context_text}
use Rattle.dy_dots.specs.declared.dots.Dot.{Dot}
use Rattle.dy_siblings.specs.declared.versions.Version.{Version}
use Rattle.dy_lines.specs.Texts.{hex_text}
use Rattle.dy_dots.specs.declared.faults.Fault.TheVariants.{NotEnough}
use Rattle.dy_lines.specs.Keeping.{all_kept_text}
use Rattle.dy_lines.specs.Places.{answers_text, places_text}
use Rattle.dy_lines.specs.Refusals.{refusal_text}
use Rattle.dy_lines.specs.declared.outcomes.Word.{Word}
use Rattle.dy_lines.specs.declared.outcomes.Word.TheVariants.{Put, Delete, Get}
use Rattle.dy_lines.specs.declared.outcomes.Word.TheVariants.{Down, Up, SetMode, Deliver}
use Rattle.dy_lines.specs.declared.outcomes.Word.TheVariants.{Handoff, Show}
use Rattle.dy_lines.specs.declared.outcomes.Outcome.{Outcome}
use Rattle.dy_lines.specs.declared.outcomes.Outcome.TheVariants.{Stored, Read, Lacking}
use Rattle.dy_lines.specs.declared.outcomes.Outcome.TheVariants.{Refused, Done, Delivered}
use Rattle.dy_lines.specs.declared.outcomes.Outcome.TheVariants.{HandedOver, Shown}

-- the word of a command, as a script names it
abbrev pub word_text : Word → List ℕ
word_text Put = codes "put"
word_text Delete = codes "delete"
word_text Get = codes "get"
word_text Down = codes "down"
word_text Up = codes "up"
word_text SetMode = codes "fault"
word_text Deliver = codes "deliver"
word_text Handoff = codes "handoff"
word_text Show = codes "show"

-- whether the version stores a value
abbrev pub is_present : Version → Bool
is_present v = is_some v.value

-- a value stands behind its dot, in hexadecimal digits; a deletion has none
abbrev pub value_text : Dot → Option (List ℕ) → List ℕ
value_text dot None = []
value_text dot (Some value) = codes " " ++ dot_text dot ++ codes "=" ++ hex_text value

-- the values that are present, in the order of the versions, or none
abbrev pub values_text : List Version → List ℕ
values_text vs =
    if list_any is_present vs
    then flat_map (λ v. value_text v.dot v.value) vs else codes " none"

-- a dot behind these words, where there is one
abbrev pub dot_behind : List ℕ → Option Dot → List ℕ
dot_behind words None = codes ""
dot_behind words (Some dot) = words ++ dot_text dot

-- what came of a command
abbrev pub outcome_text : Outcome → List ℕ
outcome_text (Stored word dot answers) =
    word_text word ++ codes " ok " ++ dot_text dot
    ++ codes " answers" ++ answers_text answers.items
outcome_text (Read context «from» row) =
    codes "get ok context " ++ context_text context
    ++ codes " from" ++ places_text «from».items
    ++ codes " values" ++ values_text row.versions
outcome_text (Lacking word dot answers) =
    word_text word ++ codes " " ++ refusal_text NotEnough ++ dot_behind (codes " ") dot
    ++ codes " answers" ++ answers_text answers.items
outcome_text (Refused word fault after) =
    word_text word ++ codes " " ++ refusal_text fault
    ++ dot_behind (codes " after ") after
outcome_text (Done word) = word_text word ++ codes " ok"
outcome_text (Delivered count) = codes "deliver ok " ++ decimal count
outcome_text (HandedOver offers stored released) =
    codes "handoff ok offers " ++ decimal offers ++ codes " stored " ++ decimal stored
    ++ codes " released " ++ decimal released
outcome_text (Shown node kept) =
    codes "show " ++ decimal node ++ codes " own " ++ all_kept_text node kept.items

-- the command's number, a blank, and what came of it
abbrev pub command_text : ℕ → Outcome → List ℕ
command_text number outcome = decimal number ++ codes " " ++ outcome_text outcome
