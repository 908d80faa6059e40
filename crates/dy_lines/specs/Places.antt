-- The texts of places, and of answers.
use Rattle.std.specs.Prelude.{ℕ, List, ◌++◌, codes, decimal}
use Rattle.dy_core.specs.declared.places.Place.{Place}
use Rattle.dy_core.specs.Answers.{kind_text}
use Rattle.dy_core.specs.declared.answers.AnswerRead.{AnswerRead}
use Rattle.dy_lines.specs.Texts.{listed_text}

-- a place is its holder, a stroke, and its home
abbrev pub place_text : Place → List ℕ
place_text p = decimal p.holder ++ codes "/" ++ decimal p.home

-- places stand each behind a blank
abbrev pub places_text : List Place → List ℕ
places_text places = listed_text place_text places

-- an answer is its place and its kind
abbrev pub answer_text : AnswerRead → List ℕ
answer_text a = place_text a.place ++ codes "=" ++ kind_text a.kind

-- answers stand each behind a blank
abbrev pub answers_text : List AnswerRead → List ℕ
answers_text answers = listed_text answer_text answers
