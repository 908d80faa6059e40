-- What stands below the line of a command: the steps that the book made meanwhile.
use Rattle.std.specs.Prelude.{◌≡◌, ◌+◌, ◌++◌, ◌∷◌, [], ℕ, Bool, true, false, List, Option, Some}
use Rattle.std.specs.Prelude.{None, drop, length, map, slice_get}
use Rattle.dy_core.specs.declared.steps.Step.{Step}
use Rattle.dy_shares.specs.Shares.{SessionPart, answer_numbers, steps_of}
use Rattle.dy_shares.specs.Trails.{AreKept}
use Rattle.dy_shares.specs.declared.entries.Entry.{Entry}
use Rattle.dy_shares.specs.declared.kept_steps.KeptStep.{KeptStep}
use Rattle.dy_shares.specs.declared.step_numbers.StepNumbers.{StepNumbers}
use Rattle.dy_script.specs.Orders.{CommandParts, puts, deletes, gets}
use Rattle.dy_commands.specs.Commands.{none_seated, seated}
use Rattle.dy_commands.specs.Seats.{Seated, seat_of}
use Rattle.dy_lines.specs.StepLines.{StepSessions, step_lines}
use Rattle.dy_commands.specs.declared.seats.Seats.{Seats}
use Rattle.dy_serve.specs.declared.told.ToldSoFar.{ToldSoFar}

-- how far an open cluster is: its sessions, and the steps of its log that were printed
pub record Standing : Type 0 where
  pub sessions : Seated
  pub read : List Step

-- nothing was done in it
abbrev pub none_standing : Standing
none_standing = record { sessions = none_seated; read = [] }

-- the sessions on these seats, where so much of the log was read
abbrev pub standing : Seats → List SessionPart → List Entry → Standing
standing seats tellings log = record { sessions = seated seats tellings; read = steps_of log }

-- nothing was done in a cluster with these sessions and so much of the log read
abbrev pub IsUntouched : Seats → List SessionPart → List Entry → Type 0
IsUntouched seats tellings log = standing seats tellings log ≡ none_standing

-- the session of this number, where it is open
abbrev pub session_at : ℕ → Seated → Option SessionPart
session_at number s = slice_get s.tellings (seat_of number s.numbers)

-- how many acks a session was told, and how many fetches its gets used
abbrev pub told_by : Option SessionPart → ToldSoFar
told_by None = record { acks = 0; fetches = 0 }
told_by (Some s) = record { acks = length s.acks; fetches = length (answer_numbers s.gets) }

-- these are the step numbers that the session was told behind so many
abbrev pub AreNew : ToldSoFar → Option SessionPart → StepNumbers → Type 0
AreNew so_far None n = (n.acks.items ≡ []) × (n.fetches.items ≡ [])
AreNew so_far (Some s) n =
    (n.acks.items ≡ drop so_far.acks (map (λ a. a.at) s.acks))
    × (n.fetches.items ≡ drop so_far.fetches (answer_numbers s.gets))

-- one session, which was told these, by its number
abbrev pub one_session : ℕ → StepNumbers → StepSessions
one_session number told = record { numbers = number ∷ []; told = told ∷ [] }

-- the lines of the steps that the log has behind those that were read, of which the session of this
-- number was told what is new to it
pub record AreBelow (so_far : ToldSoFar) (read : List Step) (number : ℕ) (after : Standing)
    (text : List ℕ) : Type 0 where
  pub told : StepNumbers
  pub told_are : AreNew so_far (session_at number after.sessions) told
  pub kept : List KeptStep
  pub added : List Step
  pub are_kept : AreKept kept added
  pub read_is : after.read ≡ read ++ added
  pub text_is : text ≡ step_lines (one_session number told) [] (length read + 1) kept

-- the same if the steps are wanted, or else nothing
abbrev pub AreBelowIf :
    Bool → ToldSoFar → List Step → ℕ → Standing → List ℕ → Type 0
AreBelowIf false so_far read number after text = (after.read ≡ read) × (text ≡ [])
AreBelowIf true so_far read number after text = AreBelow so_far read number after text

-- what was done in the session of this number made these steps, if they are wanted
abbrev pub IsBelow : Bool → ℕ → Standing → Standing → List ℕ → Type 0
IsBelow with_steps number before after text =
    AreBelowIf with_steps (told_by (session_at number before.sessions)) before.read number after
    text

-- the session of a command, which is 0 where it names none
abbrev pub session_in : CommandParts → ℕ
session_in (puts write value) = write.session
session_in (deletes write) = write.session
session_in (gets key session) = session
session_in other = 0
