-- The lines that only a store that serves lines prints.
use Rattle.std.specs.Prelude.{ℕ, List, ◌++◌, codes, decimal}
use Rattle.dy_dots.specs.declared.faults.Fault.{Fault}
use Rattle.dy_lines.specs.Refusals.{refusal_text}
use Rattle.dy_lines.specs.declared.served.ServedLine.{ServedLine}
use Rattle.dy_lines.specs.declared.served.ServedLine.TheVariants.{Refused, Renewed}

-- the number of a command that could not be read, and the refusal
abbrev pub refused_text : ℕ → Fault → List ℕ
refused_text number fault = decimal number ++ codes " " ++ refusal_text fault

-- how many values a renewal carried over
abbrev pub carried_text : ℕ → List ℕ
carried_text carried = codes "renew ok carried " ++ decimal carried

-- the number of a renewal, and how many values were carried over
abbrev pub renewed_text : ℕ → ℕ → List ℕ
renewed_text number carried = decimal number ++ codes " " ++ carried_text carried

-- the line of such a command, or of a renewal
abbrev pub served_text : ServedLine → List ℕ
served_text (Refused number fault) = refused_text number fault
served_text (Renewed number carried) = renewed_text number carried
