use Rattle.std.proofs.Common.{take}
use Rattle.std.specs.Io.KnownBytes.{Appends}
use Rattle.dy_lines.specs.Clusters.{token_lines}
use Rattle.dy_lines.proofs.rings.write_tokens.Given as goal

-- the lines of the tokens so far are written
abbrev pub invariant-loop-position : goal.invariant-loop-position
invariant-loop-position g l =
    Appends (g.W.Write.contents l.initial.out) (g.W.Write.contents l.out)
    (token_lines (take l.position-index l.tokens))
