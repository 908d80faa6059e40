-- What stops a run is the refusal that comes first, and then nothing is written; or it failed.
use Rattle.std.proofs.Common.{ap, inl, refl}
use Rattle.std.specs.Prelude.{Err}
use Rattle.dy_script.specs.Reading.{script_parts}
use Rattle.dy_book.specs.Limits.{AreLimits}
use Rattle.dy_dots.specs.declared.faults.Fault.{Fault}
use Rattle.dy_lines.specs.declared.stops.Stopped.TheVariants.{Refused}
use Rattle.dy_plans.specs.Openings.{options_for}
use Rattle.dy_plans.specs.Refusals.{IsFirstRefusal}
use Rattle.dy_plans.proofs.Refusing.{failed_only, not_refused, on_ok, same_refusal, same_stop}
use Rattle.dy_runner.proofs.writing.write_run.Goals as goal

-- a script that has a plan has its limits in their ranges
pub returns-in-Ok-clause-limits : goal.returns-in-Ok-clause-limits
returns-in-Ok-clause-limits g c =
    on_ok c.write_planned.result (AreLimits (options_for (script_parts c.args.script.now)))
    c.in-Ok.ensures.ok.limits

-- and nothing refuses it
pub returns-in-Ok-clause-refused : goal.returns-in-Ok-clause-refused
returns-in-Ok-clause-refused g c =
    let first = c.in-Ok.ensures.first in
    let options = options_for (script_parts c.args.script.now) in (
      first.0,
      first.1,
      λ f this. not_refused c.in-Ok.plan f ((first.2 f).1 this),
      failed_only c.write_planned.result (IsFirstRefusal first.0 options)
          c.write_planned.ensures.only,
    )

-- what has none is stopped by what refuses it
pub returns-in-Err-clause-refused : goal.returns-in-Err-clause-refused
returns-in-Err-clause-refused g c =
    let first = c.in-Err.ensures.first in (
      first.0,
      first.1,
      λ f this. (
        ap (λ (e : Fault). Err (Refused e))
            (same_refusal c.in-Err.fault f ((first.2 f).1 this)),
        refl,
      ),
      λ f stops. inl ((first.2 f).0 (ap Err (same_stop c.in-Err.fault f stops))),
    )
