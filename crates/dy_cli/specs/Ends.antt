-- How a job ends: its status, and what is told.
use Rattle.std.specs.Prelude.{◌≡◌, ◌⊎◌, ◌++◌, ℕ, List, Option, IsTrue, codes}
use Rattle.std.specs.Io.KnownBytes.{Appends}
use Rattle.dy_dots.specs.declared.faults.Fault.{Fault}
use Rattle.dy_dots.specs.declared.faults.Fault.TheVariants.{OutOfMemory}
use Rattle.dy_lines.specs.Refusals.{refusal_text}
use Rattle.dy_lines.specs.Texts.{line}
use Rattle.dy_lines.specs.declared.stops.Stopped.{Stopped}
use Rattle.dy_lines.specs.declared.stops.Stopped.TheVariants.{Refused, Output}
use Rattle.dy_plans.specs.Refusals.{HasFailed}
use Rattle.dy_jobs.specs.Jobs.{has_script}
use Rattle.dy_cli.specs.Refusals.{IsCause, Stops}
use Rattle.dy_cli.specs.declared.ends.Ended.{Ended}
use Rattle.dy_jobs.specs.declared.jobs.Job.{Job}

-- a job that stopped ends with 1 where memory or the output failed, and with 2 for any other cause
abbrev pub IsStatusOf : Stopped → ℕ → Type 0
IsStatusOf (Refused f) status =
    (HasFailed f × (status ≡ 1)) ⊎ (¬ (HasFailed f) × (status ≡ 2))
IsStatusOf (Output e) status = status ≡ 1

-- behind what was told before stands the line of this text, if it could be written
abbrev pub IsTold : Ended → List ℕ → Option (List ℕ) → Option (List ℕ) → Type 0
IsTold ended text before after =
    IsTrue ended.told → Appends before after (line (codes "dynamo: " ++ text))

-- it ended with the status of this refusal, which is told
abbrev pub IsEndBy : Fault → Ended → Option (List ℕ) → Option (List ℕ) → Type 0
IsEndBy f ended before after =
    IsStatusOf (Refused f) ended.status × IsTold ended (refusal_text f) before after

-- a job whose file could not be read ended with 1 where memory ran out, which is told, and with 2
-- for any other cause; nothing was written
pub record IsUnread (job : Job) (ended : Ended) (out out_after err err_after : Option (List ℕ)) :
    Type 0 where
  pub reads : IsTrue (has_script job)
  pub untouched : out_after ≡ out
  pub cause : ((ended.status ≡ 1) × IsTold ended (refusal_text OutOfMemory) err err_after)
      ⊎ (ended.status ≡ 2)

-- how a job of these bytes and lines ended: with 1 only if memory failed, which is told, or the
-- output did, and then nothing refuses the job; with 2 only for one of its causes, which is told;
-- what refuses it is told with its status, or want of memory is, and nothing was written
pub record IsEnd (job : Job) (given : Option (List ℕ)) (bytes : List ℕ) (ended : Ended)
    (out out_after err err_after : Option (List ℕ)) : Type 0 where
  pub failed :
      ended.status ≡ 1
      → ((f : Fault) × HasFailed f × IsTold ended (refusal_text f) err err_after)
      ⊎ ((f : Fault) → ¬ (Stops job bytes f))
  pub refused :
      ended.status ≡ 2
      → (f : Fault) × IsCause job given bytes out out_after f × ¬ (HasFailed f)
      × IsTold ended (refusal_text f) err err_after
  pub stopped :
      (f : Fault)
      → Stops job bytes f
      → (IsEndBy f ended err err_after ⊎ IsEndBy OutOfMemory ended err err_after)
      × (out_after ≡ out)
