use Rattle.std.proofs.Common.{◌≡◌, List, take}
use Rattle.dy_core.specs.declared.steps.Step.{Step}
use Rattle.dy_book.specs.Audits.{IsHistoryOf}
use Rattle.dy_replay.proofs.playing.play.Given as goal

-- the first steps are made
abbrev pub invariant-loop-at : goal.invariant-loop-at
invariant-loop-at l =
    (steps : List Step) → IsHistoryOf l.history steps →
    l.world ≡ record { ring = l.fn.ring; n = l.fn.n; steps = take l.at steps }
