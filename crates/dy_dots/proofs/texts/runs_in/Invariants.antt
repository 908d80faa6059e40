use Rattle.std.proofs.Common.{◌≡◌, ◌≤◌, drop}
use Rattle.dy_dots.specs.inside.Reading.{read_from, read_runs}
use Rattle.dy_dots.proofs.texts.runs_in.Given as goal

abbrev pub invariant-loop-byte : goal.invariant-loop-byte
invariant-loop-byte l = record {
  read : read_from l.runs.items l.node l.first l.number (drop l.byte-index l.bytes) ≡ read_runs l.bytes;
  small : l.number ≤ 10000009;
}
