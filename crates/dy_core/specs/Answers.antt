-- How the kind of an answer is printed.
use Rattle.std.specs.Prelude.{ℕ, List, ◌++◌, codes, decimal}
use Rattle.dy_core.specs.declared.answers.AnswerKind.{AnswerKind}
use Rattle.dy_core.specs.declared.answers.AnswerKind.TheVariants.{Stored, Rows, Down, NoAnswer}
use Rattle.dy_core.specs.declared.answers.AnswerKind.TheVariants.{Refused}

-- the text of a kind
abbrev pub kind_text : AnswerKind → List ℕ
kind_text Stored = codes "stored"
kind_text Rows = codes "rows"
kind_text Down = codes "down"
kind_text NoAnswer = codes "noanswer"
kind_text (Refused number) = codes "E" ++ decimal number
