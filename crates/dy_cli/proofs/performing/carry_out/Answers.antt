-- the status and the line are those of what stopped the job
use Rattle.std.proofs.Common.{refl}
use Rattle.dy_cli.proofs.Ending.{done_ends, stopped_ends}
use Rattle.dy_cli.proofs.performing.carry_out.Goals as goal

pub returns-in-Ok-clause-ended : goal.returns-in-Ok-clause-ended
returns-in-Ok-clause-ended g c = done_ends _ _ _ tt _ _ _ _ _ refl c.in-Ok.ensures.refused

pub returns-in-Err-clause-ended : goal.returns-in-Err-clause-ended
returns-in-Err-clause-ended g c =
    stopped_ends _ _ _ c.in-Err.stopped _ _ _ _ _ c.in-Err.ensures.refused c.in-Err.ensures.only
    c.refuse_stopped.ensures.status c.refuse_stopped.ensures.told
