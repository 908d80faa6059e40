use Rattle.std.proofs.Common.{take}
use Rattle.std.specs.Fmt.{HasWritten, IsPlainFormatter}
use Rattle.std.specs.List.{flat_map}
use Rattle.dy_lines.specs.Outcomes.{value_text}
use Rattle.dy_lines.proofs.outcomes.ValuesDisplay.fmt.Given as goal

abbrev pub invariant-loop-version : goal.invariant-loop-version
invariant-loop-version g l =
    IsPlainFormatter l.initial.f
    → HasWritten g.W.Write.write_str_gives l.initial.f (flat_map (λ v. value_text v.dot v.value) (take l.version-index l.version-items)) l.f
