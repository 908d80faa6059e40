use Rattle.std.proofs.Common.{◌≤◌, length}
use Rattle.dy_runner.specs.Traces.{sessions_of}
use Rattle.dy_runner.proofs.Tracing.{TracesSoFar}
use Rattle.dy_runner.proofs.telling.write_plays.Given as goal

-- the commands so far are written, with the steps before this place
abbrev pub invariant-loop-index : goal.invariant-loop-index
invariant-loop-index g l =
    record {
      within : l.at ≤ length l.trace.steps.now;
      so_far : TracesSoFar (sessions_of l.trace) l.plays l.index l.at l.trace.steps.now
          (g.O.Write.contents l.initial.out) (g.O.Write.contents l.out);
    }
