use Rattle.std.proofs.Common.{take}
use Rattle.std.specs.Fmt.{HasWritten, IsPlainFormatter}
use Rattle.dy_lines.specs.Keeping.{hints_text}
use Rattle.dy_lines.proofs.keeping.AllKeptDisplay.fmt.Given as goal

abbrev pub invariant-loop-hint : goal.invariant-loop-hint
invariant-loop-hint g l =
    IsPlainFormatter l.initial.f
    → HasWritten g.W.Write.write_str_gives l.initial.f
    (hints_text l.self.node (take l.hint-index l.hint-items)) l.f
