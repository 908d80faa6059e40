-- What stops a service is the refusal that comes first, and then nothing is written; or it was cut,
-- or it failed.
use Rattle.std.proofs.Common.{ap, inl, inr, refl, ⊎_elim}
use Rattle.std.specs.Prelude.{◌⊎◌, Err}
use Rattle.dy_dots.specs.declared.faults.Fault.{Fault}
use Rattle.dy_lines.specs.declared.stops.Stopped.TheVariants.{Refused}
use Rattle.dy_script.specs.Reading.{script_parts}
use Rattle.dy_plans.specs.Openings.{options_for}
use Rattle.dy_plans.specs.Refusals.{HasFailed, IsFirstRefusal}
use Rattle.dy_plans.proofs.Refusing.{not_refused, same_refusal, same_stop}
use Rattle.dy_serve.specs.Refusals.{CutsService}
use Rattle.dy_serve.proofs.Stopping.{stopped_too}
use Rattle.dy_serve.proofs.serving.serve.Goals as goal

-- what has a plan is not refused first
pub returns-in-Ok-clause-refused : goal.returns-in-Ok-clause-refused
returns-in-Ok-clause-refused g c =
    let contents = g.O.Write.contents in
    let script = script_parts c.args.script.now in
    let first = c.in-Ok.ensures.first in
    let cuts : Fault → Type 0 =
    CutsService script c.args.with_steps (g.I.Read.remaining c.args.input.now)
    (contents c.args.out.now) (contents c.serve_planned.new.out) in (
      first.0,
      first.1,
      λ f this. not_refused c.in-Ok.plan f ((first.2 f).1 this),
      stopped_too (λ f. cuts f ⊎ HasFailed f)
          (λ f. (IsFirstRefusal first.0 (options_for script) f ⊎ cuts f) ⊎ HasFailed f)
          c.serve_planned.result (λ f. ⊎_elim (λ cut. inl (inr cut)) inr)
          c.serve_planned.ensures.only,
    )

-- what has none is stopped by what refuses it
pub returns-in-Err-clause-refused : goal.returns-in-Err-clause-refused
returns-in-Err-clause-refused g c =
    let first = c.in-Err.ensures.first in (
      first.0,
      first.1,
      λ f this. (
        ap (λ (e : Fault). Err (Refused e))
            (same_refusal c.in-Err.fault f ((first.2 f).1 this)),
        refl,
      ),
      λ f stops. inl (inl ((first.2 f).0 (ap Err (same_stop c.in-Err.fault f stops)))),
    )
