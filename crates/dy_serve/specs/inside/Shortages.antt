-- Why no more is served.
use Rattle.std.specs.Prelude.{◌≡◌, ◌≤◌, ◌⊎◌, ◌+◌, ◌^◌, List, ℕ, Option, None, Some, false, length}
use Rattle.std.specs.Io.KnownBytes.{Appends}
use Rattle.dy_dots.specs.declared.faults.Fault.{Fault}
use Rattle.dy_dots.specs.declared.faults.Fault.TheVariants.{OutOfMemory, SharesMissing, TooMany}
use Rattle.dy_cluster.specs.Settings.{Setting}
use Rattle.dy_cluster.specs.declared.resting.Closed.{Closed}
use Rattle.dy_script.specs.Reading.{ScriptParts, node_count}
use Rattle.dy_serve.specs.Answers.{asked_in}
use Rattle.dy_serve.specs.Closings.{Service}
use Rattle.dy_serve.specs.InputLines.{AreFirstLines}
use Rattle.dy_serve.specs.Refusals.{IsNotCarried, IsOutOfNumbers, IsRenewalRefused}
use Rattle.dy_serve.specs.declared.services.Stop.{Stop}

-- there is no number behind this one
abbrev pub HasNoNumber : ℕ → Fault → Type 0
HasNoNumber count fault = (fault ≡ TooMany) × (count + 1 ≡ 2 ^ 32)

-- why no more lines are answered, of which the first has the number behind this one: memory was
-- wanting, or the lines before ask for so much that the next has no number
abbrev pub StopsLines : ℕ → ℕ → Option (List ℕ) → Fault → Type 0
StopsLines nodes first given fault =
    (fault ≡ OutOfMemory)
    ⊎ ((fault ≡ TooMany) × ((lines : List (List ℕ)) × AreFirstLines false given lines
    × (2 ^ 32 ≤ first + length (asked_in nodes (first + 1) lines) + 1)))

-- why the commands of a script are not all done
abbrev pub StopsScript : ScriptParts → Fault → Type 0
StopsScript script fault =
    (fault ≡ OutOfMemory) ⊎ ((fault ≡ TooMany) × (2 ^ 32 ≤ length script.run + 1))

-- why a cluster is not begun: a command of the script was not done, or what was present in the one
-- before was not carried over, and then nothing was written
abbrev pub StopsBeginning : Setting → ScriptParts → Option Closed → Option (List ℕ)
    → Option (List ℕ) → Fault → Type 0
StopsBeginning s script closed before after fault =
    (fault ≡ OutOfMemory) ⊎ ((closed ≡ None) × StopsScript script fault)
    ⊎ ((last : Closed) × (closed ≡ Some last) × IsNotCarried s last fault × (after ≡ before))

-- the last number in a cluster that was begun, which is that of the renewal if there was one
abbrev pub begun_at : ScriptParts → Option Closed → ℕ → ℕ
begun_at script None number = length script.run
begun_at script (Some closed) number = number

-- why no more is served in a cluster that was opened behind this one where there is one, and behind
-- this stop
abbrev pub StopsServing : Setting → ScriptParts → Option Closed → Stop → Option (List ℕ)
    → Option (List ℕ) → Option (List ℕ) → Fault → Type 0
StopsServing s script closed begin given before after fault =
    StopsBeginning s script closed before after fault
    ⊎ ((begin.is_last ≡ false)
    × StopsLines (node_count script.layout) (begun_at script closed begin.count) given fault)

-- why such a cluster is not served in and closed
abbrev pub StopsCluster : Setting → ScriptParts → Option Closed → Stop → Option (List ℕ)
    → Option (List ℕ) → Option (List ℕ) → Fault → Type 0
StopsCluster s script closed begin given before after fault =
    (fault ≡ SharesMissing) ⊎ StopsServing s script closed begin given before after fault

-- why clusters are not served in one after another to the end
abbrev pub StopsClusters : Service → Option (List ℕ) → Option (List ℕ) → Option (List ℕ) → Fault
    → Type 0
StopsClusters v given before after fault =
    ((fault ≡ OutOfMemory) ⊎ (fault ≡ SharesMissing))
    ⊎ ((fault ≡ TooMany) × IsOutOfNumbers v.script given)
    ⊎ ((wrote : List ℕ) × IsRenewalRefused v given wrote fault × Appends before after wrote)
