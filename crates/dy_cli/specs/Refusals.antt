-- Why a job is refused.
use Rattle.std.specs.Prelude.{◌≡◌, ◌⊎◌, ℕ, Bool, List, Option, Result, Err, IsErrOf}
use Rattle.dy_dots.specs.declared.faults.Fault.{Fault}
use Rattle.dy_dots.specs.declared.faults.Fault.TheVariants.{OutOfMemory, TooMany}
use Rattle.dy_ring.specs.Rings.{Tokens}
use Rattle.dy_script.specs.Reading.{ScriptParts, script_of_text}
use Rattle.dy_lines.specs.declared.stops.Stopped.{Stopped}
use Rattle.dy_lines.specs.declared.stops.Stopped.TheVariants.{Refused}
use Rattle.dy_plans.specs.Openings.{options_for}
use Rattle.dy_plans.specs.Refusals.{HasFailed, IsFirstRefusal}
use Rattle.dy_plans.specs.RingLines.{IsRingMade, lists_of}
use Rattle.dy_serve.specs.Refusals.{CutsService}
use Rattle.dy_cli.specs.Jobs.{IsSpelt}
use Rattle.dy_jobs.specs.declared.jobs.Job.{Job}
use Rattle.dy_jobs.specs.declared.jobs.Job.TheVariants as Job

-- this comes first of what refuses the script, whatever is made of its layout, unless memory runs
-- out
abbrev pub RefusesCluster : ScriptParts → Fault → Type 0
RefusesCluster s f =
    (made : Result Tokens Fault)
    → IsRingMade (lists_of s.layout) made
    → IsFirstRefusal made (options_for s) f ⊎ IsErrOf made OutOfMemory

-- the script's layout is refused so, unless memory runs out
abbrev pub RefusesRing : ScriptParts → Fault → Type 0
RefusesRing s f =
    (made : Result Tokens Fault)
    → IsRingMade (lists_of s.layout) made
    → IsErrOf made f ⊎ IsErrOf made OutOfMemory

-- this came first of what refuses the script, where something was made of its layout
abbrev pub HasClusterFault : ScriptParts → Fault → Type 0
HasClusterFault s f =
    (made : Result Tokens Fault)
    × IsRingMade (lists_of s.layout) made
    × IsFirstRefusal made (options_for s) f

-- the script's layout was refused so
abbrev pub HasRingFault : ScriptParts → Fault → Type 0
HasRingFault s f =
    (made : Result Tokens Fault) × IsRingMade (lists_of s.layout) made × IsErrOf made f

-- the same of a service that was given these lines, with what the output had before and after; or
-- what was asked of it cut it short
abbrev pub HasServiceFault : Bool → Option (List ℕ) → Option (List ℕ) → Option (List ℕ)
    → ScriptParts → Fault → Type 0
HasServiceFault with_steps given before after s f =
    HasClusterFault s f ⊎ CutsService s with_steps given before after f

-- for this fault these bytes spell no script, or they spell one that has it
abbrev pub AreRefused : (ScriptParts → Fault → Type 0) → List ℕ → Fault → Type 0
AreRefused Has bytes f =
    (script_of_text bytes ≡ Err f) ⊎ ((s : ScriptParts) × IsSpelt bytes s × Has s f)

-- this refuses a job of these bytes, unless memory runs out
abbrev pub Stops : Job → List ℕ → Fault → Type 0
Stops (Job.Run file with_steps) bytes f = AreRefused RefusesCluster bytes f
Stops (Job.Serve file with_steps) bytes f = AreRefused RefusesCluster bytes f
Stops (Job.Ring file) bytes f = AreRefused RefusesRing bytes f
Stops (Job.Storm plan) bytes f = ⊥

-- nothing but this, or a failure, refuses a job of these bytes, which was given these lines, with
-- what the output had before and after
abbrev pub IsCause : Job → Option (List ℕ) → List ℕ → Option (List ℕ) → Option (List ℕ) → Fault
    → Type 0
IsCause (Job.Run file with_steps) given bytes before after f = AreRefused HasClusterFault bytes f
IsCause (Job.Serve file with_steps) given bytes before after f =
    AreRefused (HasServiceFault with_steps given before after) bytes f
IsCause (Job.Ring file) given bytes before after f = AreRefused HasRingFault bytes f
IsCause (Job.Storm plan) given bytes before after f = f ≡ TooMany

-- each such refusal stopped this, or want of memory did, and nothing was written before it
abbrev pub IsHaltedBy :
    {T : Type 0} → (Fault → Type 0) → Result T Stopped → Option (List ℕ) → Option (List ℕ)
    → Type 0
IsHaltedBy Refuses result before after =
    (f : Fault)
    → Refuses f
    → (IsErrOf result (Refused f) ⊎ IsErrOf result (Refused OutOfMemory)) × (after ≡ before)

-- whatever refusal stopped this was one of these, or a failure
abbrev pub IsHaltedFor : {T : Type 0} → (Fault → Type 0) → Result T Stopped → Type 0
IsHaltedFor Causes result = (f : Fault) → IsErrOf result (Refused f) → Causes f ⊎ HasFailed f
