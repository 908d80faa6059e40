use Rattle.std.proofs.Common.{◌+◌, [], drop}
use Rattle.dy_lines.specs.StepLines.{step_lines}
use Rattle.dy_lines.specs.inside.Fetches.{IsFirstBetween}
use Rattle.dy_lines.proofs.StepLines.{Leaves}
use Rattle.dy_lines.proofs.step_lines.write_step_lines.Given as goal

-- the lines of the steps from this place on are left
abbrev pub invariant-loop-index : goal.invariant-loop-index
invariant-loop-index g l =
    let s = g.A.Audience.sessions l.audience in
    record {
      first : IsFirstBetween (g.A.Audience.before l.audience) (g.A.Audience.last l.audience)
          l.fetches.items;
      left : Leaves (g.O.Write.contents l.initial.out) (g.O.Write.contents l.out)
          (step_lines s l.fetches.items (l.before + l.index + 1) (drop l.index l.steps))
          (step_lines s [] (l.before + 1) l.steps);
    }
