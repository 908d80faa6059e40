-- Why a run of a plan fails.
use Rattle.std.proofs.Common.{sym, subst, inl, inr, ⊎_elim, ◌≡◌}
use Rattle.std.specs.Prelude.{◌⊎◌, ℕ}
use Rattle.dy_dots.specs.declared.faults.Fault.{Fault}
use Rattle.dy_dots.specs.declared.faults.Fault.TheVariants.{OutOfMemory, SharesMissing}
use Rattle.dy_book.specs.Limits.{AreLimits, IsQuorum}
use Rattle.dy_book.specs.declared.options.Options.{Options}
use Rattle.dy_cluster.specs.Refusals.{IsOpenRefusal}
use Rattle.dy_script.specs.Reading.{ScriptParts}
use Rattle.dy_plans.specs.Openings.{IsPlanOf}
use Rattle.dy_plans.specs.Refusals.{HasFailed}
use Rattle.dy_plans.specs.declared.plans.Plan.{Plan}

-- a cluster is not opened, or misses a share, or its work wanted memory
pub open_or_failed : (options : Options) (nodes : ℕ) (f : Fault) →
    IsOpenRefusal options nodes f ⊎ (f ≡ SharesMissing) ⊎ (f ≡ OutOfMemory) →
    IsOpenRefusal options nodes f ⊎ HasFailed f
open_or_failed options nodes f =
    ⊎_elim inl (⊎_elim (λ missing. inr (inr missing)) (λ memory. inr (inl memory)))

-- a plan that nothing refuses can but fail
pub plan_fails : (s : ScriptParts) (plan : Plan) (f : Fault) → IsPlanOf s plan →
    IsOpenRefusal plan.options plan.ring.nodes f ⊎ HasFailed f → HasFailed f
plan_fails s plan f planned =
    let limits : AreLimits plan.options = subst AreLimits (sym planned.options) planned.limits in
    let fits : IsQuorum plan.options plan.ring.nodes =
    subst (λ (o : Options). IsQuorum o plan.ring.nodes) (sym planned.options) planned.quorum in
    ⊎_elim
    (⊎_elim (λ limit. absurd (limit.1 limits))
    (⊎_elim (λ quorum. absurd (quorum.1 fits)) (λ memory. inl memory)))
    (λ failed. failed)
