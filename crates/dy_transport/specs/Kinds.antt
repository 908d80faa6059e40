-- The kinds of answers.
use Rattle.std.specs.Prelude.{ℕ}
use Rattle.dy_dots.specs.declared.faults.Fault.{Fault}
use Rattle.dy_dots.specs.declared.faults.Fault.TheVariants.{OutOfMemory, ContextSyntax, KeySize}
use Rattle.dy_dots.specs.declared.faults.Fault.TheVariants.{ValueSize, TokenClash}
use Rattle.dy_dots.specs.declared.faults.Fault.TheVariants.{NodeWithoutToken, TooMany, CounterFull}
use Rattle.dy_dots.specs.declared.faults.Fault.TheVariants.{ContextUnknown, VersionsFull, NotIssued}
use Rattle.dy_dots.specs.declared.faults.Fault.TheVariants.{SharesMissing, StepsFull, NoNode}
use Rattle.dy_dots.specs.declared.faults.Fault.TheVariants.{NotEnough, BadQuorum, ScriptSyntax}
use Rattle.dy_dots.specs.declared.faults.Fault.TheVariants.{UnknownCommand}
use Rattle.dy_dots.specs.declared.faults.Fault.TheVariants as fault
use Rattle.dy_core.specs.declared.answers.AnswerKind.{AnswerKind}
use Rattle.dy_core.specs.declared.answers.AnswerKind.TheVariants.{Stored, Rows, Down, NoAnswer}
use Rattle.dy_core.specs.declared.answers.AnswerKind.TheVariants.{Refused}
use Rattle.dy_node.specs.declared.asks.Answer.{Answer}
use Rattle.dy_node.specs.declared.asks.Answer.TheVariants as answer

-- the number of a refusal, with which its text begins
abbrev pub fault_number : Fault → ℕ
fault_number OutOfMemory = 0
fault_number ContextSyntax = 1
fault_number KeySize = 2
fault_number ValueSize = 3
fault_number (TokenClash position) = 4
fault_number (NodeWithoutToken node) = 5
fault_number TooMany = 6
fault_number CounterFull = 7
fault_number (ContextUnknown dot) = 8
fault_number VersionsFull = 9
fault_number (NotIssued dot) = 10
fault_number SharesMissing = 11
fault_number StepsFull = 12
fault_number fault.Down = 13
fault_number NoNode = 14
fault_number NotEnough = 15
fault_number BadQuorum = 16
fault_number (ScriptSyntax command) = 17
fault_number (UnknownCommand command) = 18

module _ {J : Type 0} where
  -- the kind of an answer
  abbrev pub kind_of : Answer J → AnswerKind
  kind_of (answer.Stored receipts) = Stored
  kind_of (answer.Rows seen) = Rows
  kind_of answer.Down = Down
  kind_of answer.NoAnswer = NoAnswer
  kind_of (answer.Refused f) = Refused (fault_number f)
