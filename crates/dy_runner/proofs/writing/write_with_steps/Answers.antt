-- The cluster, the commands with their steps, and the audit's lines behind them.
use Rattle.std.proofs.Common.{◌≡◌, ◌++◌, ◌∙◌, ap, refl, subst, sym}
use Rattle.std.specs.Prelude.{◌⊎◌}
use Rattle.std.proofs.KnownBytes.{Appends-trans}
use Rattle.std.specs.Io.KnownBytes.{Appends}
use Rattle.std.specs.declared.marker.Brand.{Brand}
use Rattle.dy_script.specs.Reading.{script_parts}
use Rattle.dy_ring.specs.Rings.{Tokens}
use Rattle.dy_book.specs.Limits.{IsQuorum}
use Rattle.dy_book.specs.declared.options.Options.{Options}
use Rattle.dy_cluster.specs.Ends.{IsClosed}
use Rattle.dy_cluster.specs.Refusals.{IsOpenRefusal}
use Rattle.dy_cluster.specs.Settings.{setting}
use Rattle.dy_lines.specs.Clusters.{cluster_lines}
use Rattle.dy_plans.specs.AuditLines.{audit_lines}
use Rattle.dy_plans.specs.Openings.{options_for}
use Rattle.dy_plans.specs.Refusals.{HasFailed}
use Rattle.dy_plans.specs.RingLines.{IsLaidOut}
use Rattle.dy_commands.specs.Commands.{none_seated, seated}
use Rattle.dy_runner.specs.Runs.{DoAll, outcomes_in}
use Rattle.dy_plans.proofs.Refusing.{ends_for}
use Rattle.dy_runner.proofs.Failing.{open_or_failed, plan_fails}
use Rattle.dy_runner.proofs.Tracing.{traced_as}
use Rattle.dy_runner.proofs.writing.write_with_steps.Goals as goal

pub returns-clause-run : goal.returns-clause-run
returns-clause-run g c =
    let contents = g.O.Write.contents in
    let script = script_parts c.args.script.now in
    let plan = c.requires.planned in
    let ring = c.in_ok-ring.ring in
    let same : c.args.plan.now.ring ≡ ring = sym c.in_ok-ring.ensures.ok in
    let closed = c.in_ok-closed.closed in
    let told = c.in_ok-closed.ensures.closed in
    let recorded = c.with_cluster.new.work.recorded in
    let outcomes = outcomes_in recorded.plays.items in
    let trace = c.in_ok-trace.ensures in
    let lines = c.in_ok-write_plays.ensures.written in
    let first = cluster_lines script.n script.r script.w ring.tokens in
    let last = audit_lines script.w script.settled closed.audit in
    let cluster = subst (λ ts. Appends (contents c.args.out.now) (contents c.write_cluster.new.out)
    (cluster_lines script.n script.r script.w ts))
    (c.tokens.ensures.value ∙ ap (λ r. r.tokens) same)
    c.in_ok-write_cluster.ensures.written in (
      first ++ lines.0 ++ last,
      record {
        ring = ring;
        laid_out = subst (λ (t : Tokens). IsLaidOut script.layout t) same plan.laid_out;
        limits = plan.limits;
        quorum = subst (λ (t : Tokens). IsQuorum (options_for script) t.nodes) same plan.quorum;
        outcomes = outcomes;
        sessions = seated recorded.seats told.0;
        done = subst (λ (o : Options). DoAll (setting Brand ring o.n o.r o) script.w script.run
            outcomes none_seated (seated recorded.seats told.0)) plan.options told.2;
        closed = closed;
        ended = subst (λ (o : Options). IsClosed ring o.n o.r told.0 closed) plan.options
            told.1;
        options = c.in_ok-closed.ensures.options ∙ plan.options;
        wrote_is = (
          lines.0,
          traced_as _ recorded.seats.numbers.items _ closed.audit.told.items _ outcomes _
              closed.audit.history.trail.items lines.0
              (trace.numbers ∙ c.as_slice.ensures.value) trace.told
              (ap outcomes_in c.as_slice-2.ensures.value) trace.steps lines.1,
          refl,
        );
      },
      Appends-trans _ _ _ _ _ (Appends-trans _ _ _ _ _ cluster lines.2)
          c.in_ok-write_audit.ensures.written,
    )

-- a run of them can but fail
pub returns-in_err-closed-clause-only : goal.returns-in_err-closed-clause-only
returns-in_err-closed-clause-only g c =
    let plan = c.args.plan.now in
    let f = c.in_err-closed.field-0.0 in
    ends_for c.from_residual-in_err-closed.result f HasFailed c.from_residual-in_err-closed.ensures.1
    (plan_fails (script_parts c.args.script.now) plan f c.requires.planned
    (subst (λ (t : Tokens). IsOpenRefusal plan.options t.nodes f ⊎ HasFailed f)
    c.in_ok-ring.ensures.ok
    (open_or_failed plan.options c.in_ok-ring.ring.nodes f c.in_err-closed.ensures.only)))
