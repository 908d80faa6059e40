use Rattle.std.proofs.Common.{take}
use Rattle.std.specs.Fmt.{HasWritten, IsPlainFormatter}
use Rattle.dy_lines.specs.Texts.{listed_text}
use Rattle.dy_lines.proofs.listed.ListedDisplay.fmt.Given as goal

abbrev pub invariant-loop-item : goal.invariant-loop-item
invariant-loop-item g l =
    IsPlainFormatter l.initial.f
    → HasWritten g.W.Write.write_str_gives l.initial.f
    (listed_text g.T.Item.text (take l.item-index l.item-items)) l.f
