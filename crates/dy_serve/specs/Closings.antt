-- What is printed when a cluster is closed.
use Rattle.std.specs.Prelude.{◌≡◌, ◌+◌, ◌++◌, [], List, ℕ, Bool, true, false, length}
use Rattle.dy_core.specs.declared.steps.Step.{Step}
use Rattle.dy_shares.specs.Trails.{AreKept}
use Rattle.dy_shares.specs.declared.kept_steps.KeptStep.{KeptStep}
use Rattle.dy_shares.specs.declared.step_numbers.StepNumbers.{StepNumbers}
use Rattle.dy_book.specs.Audits.{IsHistoryOf}
use Rattle.dy_book.specs.declared.audits.Audit.{Audit}
use Rattle.dy_cluster.specs.Ends.{IsClosed}
use Rattle.dy_cluster.specs.Settings.{Setting}
use Rattle.dy_cluster.specs.declared.resting.Closed.{Closed}
use Rattle.dy_script.specs.Reading.{ScriptParts}
use Rattle.dy_plans.specs.AuditLines.{audit_lines}
use Rattle.dy_plans.specs.Openings.{options_for}
use Rattle.dy_lines.specs.StepLines.{step_lines}
use Rattle.dy_serve.specs.Below.{Standing, one_session}

-- a service of this script in clusters of this setting, with the steps or without
pub record Service : Type 1 where
  pub setting : Setting
  pub script : ScriptParts
  pub with_steps : Bool

-- the log that the audit has begins with what was read, and these are the lines of its other steps,
-- of which no session was told
pub record AreLeft (read : List Step) (audit : Audit) (text : List ℕ) : Type 0 where
  pub added : List Step
  pub history : IsHistoryOf audit.history (read ++ added)
  pub kept : List KeptStep
  pub are_kept : AreKept kept added
  pub told : StepNumbers
  pub no_acks : told.acks.items ≡ []
  pub no_fetches : told.fetches.items ≡ []
  pub text_is : text ≡ step_lines (one_session 0 told) [] (length read + 1) kept

-- the same if the steps are wanted, or else nothing
abbrev pub AreLeftIf : Bool → List Step → Audit → List ℕ → Type 0
AreLeftIf false read audit text = text ≡ []
AreLeftIf true read audit text = AreLeft read audit text

-- a cluster that was so far was closed, with the options of the script, and so it was printed
pub record IsClosing (v : Service) (before : Standing) (closed : Closed) (text : List ℕ)
    : Type 0 where
  pub ended : IsClosed v.setting.ring v.setting.n v.setting.r before.sessions.tellings closed
  pub options : closed.options ≡ options_for v.script
  pub rest : List ℕ
  pub left : AreLeftIf v.with_steps before.read closed.audit rest
  pub text_is : text ≡ rest ++ audit_lines v.script.w v.script.settled closed.audit
