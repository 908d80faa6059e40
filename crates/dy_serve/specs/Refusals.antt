-- Why a service is refused that its script does not refuse.
use Rattle.std.specs.Prelude.{◌≡◌, ◌≤◌, ◌⊎◌, ◌+◌, ◌^◌, ◌++◌, ◌∷◌, [], List, ℕ, Bool, false}
use Rattle.std.specs.Prelude.{Option, Ok, length}
use Rattle.std.specs.Io.KnownBytes.{Appends}
use Rattle.dy_dots.specs.declared.faults.Fault.{Fault}
use Rattle.dy_dots.specs.declared.faults.Fault.TheVariants.{TooMany}
use Rattle.dy_ring.specs.Rings.{Tokens}
use Rattle.dy_shares.specs.Shares.{SessionPart}
use Rattle.dy_transport.specs.Told.{Told}
use Rattle.dy_cluster.specs.Carrying.{StopsCarrying}
use Rattle.dy_cluster.specs.Settings.{Setting}
use Rattle.dy_cluster.specs.Tellings.{IsUntold}
use Rattle.dy_cluster.specs.declared.carrying.CarryFault.{CarryFault}
use Rattle.dy_cluster.specs.declared.resting.Closed.{Closed}
use Rattle.dy_script.specs.Reading.{ScriptParts}
use Rattle.dy_script.specs.Requests.{renews}
use Rattle.dy_plans.specs.RingLines.{IsLaidOut}
use Rattle.dy_serve.specs.Answers.{AreAnswered, Asked}
use Rattle.dy_serve.specs.Below.{Standing, none_standing}
use Rattle.dy_serve.specs.Closings.{IsClosing, Service}
use Rattle.dy_serve.specs.InputLines.{AreFirstLines}
use Rattle.dy_serve.specs.Served.{asked_of_all, first_lines, service_of}

-- the script and the first lines of what was given ask for so much that the next has no number
abbrev pub IsOutOfNumbers : ScriptParts → Option (List ℕ) → Type 0
IsOutOfNumbers s given =
    (lines : List (List ℕ)) × AreFirstLines false given lines
    × (2 ^ 32 ≤ length (asked_of_all s lines) + 1)

-- not all that was present in the closed cluster was put in the first session of another one, for
-- this refusal of a put, or for want of memory before the first
pub record CarriesNot (s : Setting) (closed : Closed) (fault : Fault) : Type 0 where
  pub first : SessionPart
  pub untold : IsUntold first
  pub session : SessionPart
  pub old : Told s.book
  pub new : Told s.book
  pub stop : CarryFault
  pub stops : StopsCarrying {J = s.book} s.ring s.n s.w closed.audit.held.items first session old
      new stop
  pub fault_is : fault ≡ stop.refused.fault

-- so it was, or that session could not be opened
abbrev pub IsNotCarried : Setting → Closed → Fault → Type 0
IsNotCarried s closed fault = (fault ≡ TooMany) ⊎ CarriesNot s closed fault

-- the first lines of what was given ask to renew the cluster at last; all before was answered, the
-- cluster was closed, and all of it was printed; but what was present in it could not be put into
-- the next one, for this refusal
pub record IsRenewalRefused (v : Service) (given : Option (List ℕ)) (wrote : List ℕ)
    (fault : Fault) : Type 0 where
  pub is_last : Bool
  pub lines : List (List ℕ)
  pub first : AreFirstLines is_last given lines
  pub asked : List Asked
  pub asked_are : asked_of_all v.script lines ≡ asked ++ Ok renews ∷ []
  pub stands : Standing
  pub answers : List ℕ
  pub answered : AreAnswered v asked 1 none_standing stands answers
  pub closed : Closed
  pub closing : List ℕ
  pub closed_so : IsClosing v stands closed closing
  pub wrote_is : wrote ≡ answers ++ closing
  pub not_carried : IsNotCarried v.setting closed fault

-- so it was in a service of this script, and nothing else was written behind its first lines
abbrev pub EndsAtRenewal : ScriptParts → Bool → Option (List ℕ) → Option (List ℕ)
    → Option (List ℕ) → Fault → Type 0
EndsAtRenewal s with_steps given before after fault =
    (ring : Tokens) × IsLaidOut s.layout ring
    × ((wrote : List ℕ) × IsRenewalRefused (service_of s ring with_steps) given wrote fault
    × Appends before after (first_lines s ring with_steps ++ wrote))

-- what was asked for ran out of numbers, or a renewal was refused
abbrev pub CutsService : ScriptParts → Bool → Option (List ℕ) → Option (List ℕ)
    → Option (List ℕ) → Fault → Type 0
CutsService s with_steps given before after fault =
    ((fault ≡ TooMany) × IsOutOfNumbers s given)
    ⊎ EndsAtRenewal s with_steps given before after fault
