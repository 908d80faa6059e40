-- The lines of the commands, and the audit's behind them, where no steps are wanted; the options
-- are the script's, which nothing refuses.
use Rattle.std.proofs.Common.{◌∙◌, Bool, List, ℕ, OnOk, refl, subst, sym}
use Rattle.std.proofs.KnownBytes.{Appends-trans}
use Rattle.std.specs.Io.KnownBytes.{Appends}
use Rattle.std.specs.declared.marker.Brand.{Brand}
use Rattle.dy_script.specs.Reading.{script_parts}
use Rattle.dy_book.specs.declared.options.Options.{Options}
use Rattle.dy_cluster.specs.Ends.{IsClosed}
use Rattle.dy_cluster.specs.Settings.{setting}
use Rattle.dy_plans.specs.Refusals.{HasFailed}
use Rattle.dy_commands.specs.Commands.{none_seated}
use Rattle.dy_runner.specs.Runs.{DoAll, IsPrinted, IsRun, plain_lines}
use Rattle.dy_commands.specs.Seats.{Seated}
use Rattle.dy_plans.proofs.Refusing.{ends_as}
use Rattle.dy_runner.proofs.Failing.{plan_fails}
use Rattle.dy_runner.proofs.writing.write_planned.Goals as goal

pub returns-clause-run : goal.returns-clause-run
returns-clause-run g c =
    let script = script_parts c.args.script.now in
    let plan = c.requires.planned in
    let ring = c.args.plan.ring in
    let closed = c.in_ok-closed.closed in
    let told = c.in_ok-closed.ensures.run in
    let run = told.2 in
    let sessions : Seated = record {
      numbers = run.numbers;
      tellings = told.0;
      refused = run.refused;
    } in
    let asked = plan.options in (
      plain_lines script run.outcomes closed.audit,
      record {
        ring = ring;
        laid_out = plan.laid_out;
        limits = plan.limits;
        quorum = plan.quorum;
        outcomes = run.outcomes;
        sessions = sessions;
        done = subst (λ (o : Options). DoAll (setting Brand ring o.n o.r o) script.w script.run
            run.outcomes none_seated sessions) asked run.done;
        closed = closed;
        ended = subst (λ (o : Options). IsClosed ring o.n o.r told.0 closed) asked told.1;
        options = c.in_ok-closed.ensures.options ∙ asked;
        wrote_is = subst (λ (b : Bool). IsPrinted b script ring run.outcomes run.numbers
            closed.audit (plain_lines script run.outcomes closed.audit))
            (sym c.if-with_steps.false) refl;
      },
      Appends-trans _ _ _ _ _ run.wrote c.in_ok-write_audit.ensures.written,
    )

-- what is written with the steps, where they are wanted
pub returns-then-with_steps-clause-run : goal.returns-then-with_steps-clause-run
returns-then-with_steps-clause-run g c =
    let contents = g.O.Write.contents in
    subst (λ (b : Bool). OnOk c.write_with_steps.result ((wrote : List ℕ)
    × IsRun (script_parts c.args.script.now) b wrote
    × Appends (contents c.args.out.now) (contents c.write_with_steps.new.out) wrote))
    (sym c.if-with_steps.true) c.write_with_steps.ensures.run

-- a run of them can but fail
pub returns-in_err-closed-clause-only : goal.returns-in_err-closed-clause-only
returns-in_err-closed-clause-only g c =
    let plan = c.args.plan in
    let only = c.in_err-closed.ensures.only in
    ends_as c.from_residual.result c.in_err-closed.field-0.0 HasFailed c.from_residual.ensures.1
    (λ f stops. plan_fails (script_parts c.args.script.now) plan f c.requires.planned
    (only f stops))
