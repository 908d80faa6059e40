-- Of the line a part without a line feed was taken and is kept.
use Rattle.std.proofs.Common.{◌≢◌, All, List, ℕ}
use Rattle.std.specs.Io.KnownBytes.{Consumes}
use Rattle.dy_serve.specs.InputLines.{IsKept}
use Rattle.dy_serve.proofs.input_lines.Line.read.Given as goal

abbrev pub invariant-loop : goal.invariant-loop
invariant-loop g l =
    (so_far : List ℕ) × All (λ x. x ≢ 10) so_far
    × IsKept l.self.is_long l.self.bytes.items so_far
    × Consumes (g.I.Read.remaining l.initial.input) (g.I.Read.remaining l.input) so_far
