-- What a job reads.
use Rattle.std.specs.Prelude.{Bool, true, false}
use Rattle.dy_jobs.specs.declared.jobs.Job.{Job}
use Rattle.dy_jobs.specs.declared.jobs.Job.TheVariants as Job

-- whether the job reads a script
abbrev pub has_script : Job → Bool
has_script (Job.Run file with_steps) = true
has_script (Job.Serve file with_steps) = true
has_script (Job.Ring file) = true
has_script (Job.Storm plan) = false
