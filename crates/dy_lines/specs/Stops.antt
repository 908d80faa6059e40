-- What is told where a run stops, and for which refusal it does.
use Rattle.std.specs.Prelude.{◌≡◌, ℕ, List, Option, None, Some}
use Rattle.dy_dots.specs.declared.faults.Fault.{Fault}
use Rattle.dy_dots.specs.declared.faults.Fault.TheVariants.{OutOfMemory}
use Rattle.dy_lines.specs.Refusals.{refusal_text}
use Rattle.dy_lines.specs.declared.stops.Stopped.{Stopped}
use Rattle.dy_lines.specs.declared.stops.Stopped.TheVariants.{Refused, Output}

-- a refusal by its own text, and a lost output in the system's words, of which nothing is known
abbrev pub stopped_text : Stopped → Option (List ℕ)
stopped_text (Refused fault) = Some (refusal_text fault)
stopped_text (Output error) = None

-- where it is a refusal, it is one of these
abbrev pub IsStoppedFor : (Fault → Type 0) → Stopped → Type 0
IsStoppedFor Causes stopped = (fault : Fault) → stopped ≡ Refused fault → Causes fault

-- where it is a refusal, it is for want of memory
abbrev pub IsStoppedForMemory : Stopped → Type 0
IsStoppedForMemory stopped = IsStoppedFor (λ fault. fault ≡ OutOfMemory) stopped
