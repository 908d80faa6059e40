-- The texts of refusals.
use Rattle.std.specs.Prelude.{ℕ, List, ◌++◌, codes, decimal}
use Rattle.dy_dots.specs.Dots.{dot_text}
use Rattle.dy_dots.specs.declared.faults.Fault.{Fault}
use Rattle.dy_dots.specs.declared.faults.Fault.TheVariants.{OutOfMemory, ContextSyntax, KeySize}
use Rattle.dy_dots.specs.declared.faults.Fault.TheVariants.{ValueSize, TokenClash}
use Rattle.dy_dots.specs.declared.faults.Fault.TheVariants.{NodeWithoutToken, TooMany, CounterFull}
use Rattle.dy_dots.specs.declared.faults.Fault.TheVariants.{ContextUnknown, VersionsFull, NotIssued}
use Rattle.dy_dots.specs.declared.faults.Fault.TheVariants.{SharesMissing, StepsFull, Down, NoNode}
use Rattle.dy_dots.specs.declared.faults.Fault.TheVariants.{NotEnough, BadQuorum, ScriptSyntax}
use Rattle.dy_dots.specs.declared.faults.Fault.TheVariants.{UnknownCommand}
use Rattle.dy_lines.specs.Texts.{position_text}

-- a refusal's number, its name, and what it tells
abbrev pub refusal_text : Fault → List ℕ
refusal_text OutOfMemory = codes "E0 OutOfMemory"
refusal_text ContextSyntax = codes "E1 ContextSyntax"
refusal_text KeySize = codes "E2 KeySize"
refusal_text ValueSize = codes "E3 ValueSize"
refusal_text (TokenClash position) = codes "E4 TokenClash " ++ position_text position
refusal_text (NodeWithoutToken node) = codes "E5 NodeWithoutToken " ++ decimal node
refusal_text TooMany = codes "E6 TooMany"
refusal_text CounterFull = codes "E7 CounterFull"
refusal_text (ContextUnknown dot) = codes "E8 ContextUnknown " ++ dot_text dot
refusal_text VersionsFull = codes "E9 VersionsFull"
refusal_text (NotIssued dot) = codes "E10 NotIssued " ++ dot_text dot
refusal_text SharesMissing = codes "E11 SharesMissing"
refusal_text StepsFull = codes "E12 StepsFull"
refusal_text Down = codes "E13 Down"
refusal_text NoNode = codes "E14 NoNode"
refusal_text NotEnough = codes "E15 NotEnough"
refusal_text BadQuorum = codes "E16 BadQuorum"
refusal_text (ScriptSyntax command) = codes "E17 ScriptSyntax " ++ decimal command
refusal_text (UnknownCommand command) = codes "E18 UnknownCommand " ++ decimal command
