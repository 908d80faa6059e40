-- What a job writes.
use Rattle.std.specs.Prelude.{◌≡◌, ℕ, Bool, IsTrue, List, Option, Ok}
use Rattle.std.specs.declared.marker.Brand.{Brand}
use Rattle.dy_ring.specs.Rings.{Tokens}
use Rattle.dy_ring.specs.Lists.{IsRingOf}
use Rattle.dy_script.specs.Reading.{ScriptParts, script_of_text}
use Rattle.dy_plans.specs.RingLines.{IsLaidOut, ring_lines}
use Rattle.dy_runner.specs.Runs.{IsRun}
use Rattle.dy_serve.specs.InputLines.{IsAllOf}
use Rattle.dy_serve.specs.Served.{IsServed}
use Rattle.dy_storm.specs.Clusters.{five_tokens}
use Rattle.dy_storm.specs.Ends.{IsStormed}
use Rattle.dy_storm.specs.Lines.{storm_lines}
use Rattle.dy_plans.specs.declared.storms.Storm.{Storm}
use Rattle.dy_storm.specs.declared.storms.StormDone.{StormDone}
use Rattle.dy_jobs.specs.Jobs.{has_script}
use Rattle.dy_jobs.specs.declared.jobs.Job.{Job}
use Rattle.dy_jobs.specs.declared.jobs.Job.TheVariants as Job

-- the script that these bytes spell
abbrev pub IsSpelt : List ℕ → ScriptParts → Type 0
IsSpelt bytes s = script_of_text bytes ≡ Ok s

-- the lines of a run of the script that these bytes spell
abbrev pub IsRunOf : List ℕ → Bool → List ℕ → Type 0
IsRunOf bytes with_steps wrote = (s : ScriptParts) × IsSpelt bytes s × IsRun s with_steps wrote

-- the answers of a service of the script that these bytes spell, to all lines that were given,
-- where those are known
abbrev pub IsServiceOf : Option (List ℕ) → List ℕ → Bool → List ℕ → Type 0
IsServiceOf given bytes with_steps wrote =
    (s : ScriptParts) × IsSpelt bytes s
    × ((text : List ℕ) × IsAllOf given text × IsServed s with_steps text wrote)

-- the lines of the ring of the script that these bytes spell
abbrev pub IsRingOfText : List ℕ → List ℕ → Type 0
IsRingOfText bytes wrote =
    (s : ScriptParts) × IsSpelt bytes s
    × ((ring : Tokens) × IsLaidOut s.layout ring × (wrote ≡ ring_lines ring s.keys))

-- the lines of a storm
abbrev pub IsStormLines : Storm → List ℕ → Type 0
IsStormLines plan wrote =
    (ring : Tokens) × IsRingOf five_tokens ring
    × ((done : StormDone) × ((stormed : IsStormed Brand ring 3 2 plan done)
    × (wrote ≡ storm_lines plan.steps ring.tokens stormed.tellings done)))

-- what the job writes, of a script that these bytes spell, where it has one; a service answers the
-- lines that were given
abbrev pub IsWritten : Job → Option (List ℕ) → List ℕ → List ℕ → Type 0
IsWritten (Job.Run file with_steps) given bytes wrote = IsRunOf bytes with_steps wrote
IsWritten (Job.Serve file with_steps) given bytes wrote = IsServiceOf given bytes with_steps wrote
IsWritten (Job.Ring file) given bytes wrote = IsRingOfText bytes wrote
IsWritten (Job.Storm plan) given bytes wrote = IsStormLines plan wrote

-- of a job that reads a script the bytes are all that the input gives, where that is known
abbrev pub AreRead : Job → Option (List ℕ) → List ℕ → Type 0
AreRead job given bytes = IsTrue (has_script job) → IsAllOf given bytes
