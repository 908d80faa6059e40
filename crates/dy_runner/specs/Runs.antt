-- What a script does, from its commands to what is printed of them.
use Rattle.std.specs.Prelude.{◌≡◌, ℕ, ◌+◌, Bool, false, true, List, [], ◌∷◌, ◌++◌}
use Rattle.std.specs.Prelude.{Option, map}
use Rattle.std.specs.Io.KnownBytes.{Appends}
use Rattle.std.specs.declared.marker.Brand.{Brand}
use Rattle.dy_ring.specs.Rings.{Tokens}
use Rattle.dy_book.specs.Limits.{AreLimits, IsQuorum}
use Rattle.dy_book.specs.declared.audits.Audit.{Audit}
use Rattle.dy_script.specs.Orders.{CommandParts}
use Rattle.dy_script.specs.Reading.{ScriptParts}
use Rattle.dy_shares.specs.Shares.{SessionPart}
use Rattle.dy_cluster.specs.Ends.{IsClosed}
use Rattle.dy_cluster.specs.Settings.{Setting, setting}
use Rattle.dy_cluster.specs.declared.resting.Closed.{Closed}
use Rattle.dy_lines.specs.Clusters.{cluster_lines}
use Rattle.dy_lines.specs.Outcomes.{command_text}
use Rattle.dy_lines.specs.Texts.{line}
use Rattle.dy_lines.specs.declared.outcomes.Outcome.{Outcome}
use Rattle.dy_plans.specs.AuditLines.{audit_lines}
use Rattle.dy_plans.specs.Openings.{options_for}
use Rattle.dy_plans.specs.RingLines.{IsLaidOut}
use Rattle.dy_commands.specs.Commands.{Does, none_seated, seated}
use Rattle.dy_commands.specs.Seats.{Seated}
use Rattle.dy_runner.specs.Traces.{AreTraced}
use Rattle.dy_runner.specs.declared.recordings.Played.{Played}
use Rattle.dy_runner.specs.declared.recordings.Recorded.{Recorded}

-- what the commands did, one after another, and what came of each
abbrev pub DoAll :
    Setting → ℕ → List CommandParts → List Outcome → Seated → Seated → Type 0
DoAll s w [] [] before after = after ≡ before
DoAll s w [] (o ∷ os) before after = ⊥
DoAll s w (c ∷ cs) [] before after = ⊥
DoAll s w (c ∷ cs) (o ∷ os) before after =
    (between : Seated) × Does s w c o before between × DoAll s w cs os between after

-- a line for each outcome, numbered from here
abbrev pub lines_from : ℕ → List Outcome → List ℕ
lines_from number [] = []
lines_from number (o ∷ os) = line (command_text number o) ++ lines_from (number + 1) os

-- the commands of the script were done one after another in sessions that were told so, and a line
-- for what came of each was written behind what was there
pub record HasRun (s : Setting) (script : ScriptParts) (tellings : List SessionPart)
    (before after : Option (List ℕ)) : Type 0 where
  pub outcomes : List Outcome
  pub numbers : List ℕ
  pub refused : Bool
  pub done : DoAll s script.w script.run outcomes none_seated
      (record { numbers = numbers; tellings = tellings; refused = refused })
  pub wrote : Appends before after (lines_from 1 outcomes)

-- what came of each command that was played
abbrev pub outcomes_in : List Played → List Outcome
outcomes_in plays = map (λ p. p.outcome) plays

-- the commands of the script were done one after another in sessions that were told so, and what
-- came of each is recorded
abbrev pub HasPlayed : Setting → ScriptParts → List SessionPart → Recorded → Type 0
HasPlayed s script tellings recorded =
    DoAll s script.w script.run (outcomes_in recorded.plays.items) none_seated
    (seated recorded.seats tellings)

-- what is printed without the steps: a line for what came of each command, in their order, and the
-- audit
abbrev pub plain_lines : ScriptParts → List Outcome → Audit → List ℕ
plain_lines s outcomes audit = lines_from 1 outcomes ++ audit_lines s.w s.settled audit

-- what is printed with them: the cluster, a line for each command with those of its steps below it,
-- and the audit
abbrev pub IsTraced :
    ScriptParts → Tokens → List Outcome → List ℕ → Audit → List ℕ → Type 0
IsTraced s ring outcomes numbers audit wrote =
    (lines : List ℕ)
    × AreTraced (record { numbers = numbers; told = audit.told.items }) outcomes
    audit.history.trail.items lines
    × (wrote ≡ cluster_lines s.n s.r s.w ring.tokens ++ lines
    ++ audit_lines s.w s.settled audit)

-- what is printed, with the steps or without
abbrev pub IsPrinted :
    Bool → ScriptParts → Tokens → List Outcome → List ℕ → Audit → List ℕ → Type 0
IsPrinted false s ring outcomes numbers audit wrote = wrote ≡ plain_lines s outcomes audit
IsPrinted true s ring outcomes numbers audit wrote =
    IsTraced s ring outcomes numbers audit wrote

-- what was written is what is printed of the commands of the script, done in their order on a
-- cluster that the script asks for, and behind them the audit of this cluster as it was closed,
-- which has the script's options; its book has the name that is picked where a cluster is opened
-- for some work
pub record IsRun (s : ScriptParts) (with_steps : Bool) (wrote : List ℕ) : Type 0 where
  pub ring : Tokens
  pub laid_out : IsLaidOut s.layout ring
  pub limits : AreLimits (options_for s)
  pub quorum : IsQuorum (options_for s) ring.nodes
  pub outcomes : List Outcome
  pub sessions : Seated
  pub done : DoAll (setting Brand ring s.n s.r (options_for s)) s.w s.run outcomes none_seated
      sessions
  pub closed : Closed
  pub ended : IsClosed ring s.n s.r sessions.tellings closed
  pub options : closed.options ≡ options_for s
  pub wrote_is : IsPrinted with_steps s ring outcomes sessions.numbers closed.audit wrote
