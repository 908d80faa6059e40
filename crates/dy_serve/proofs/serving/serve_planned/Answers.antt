-- behind the head stands all that was served
use Rattle.std.proofs.Common.{◌⊎◌, ◌++◌}
use Rattle.std.proofs.KnownBytes.{Appends-trans}
use Rattle.dy_script.specs.Reading.{script_parts}
use Rattle.dy_plans.specs.Refusals.{HasFailed}
use Rattle.dy_serve.specs.Refusals.{CutsService}
use Rattle.dy_serve.specs.Served.{first_lines, service_of}
use Rattle.dy_serve.specs.inside.Shortages.{StopsClusters}
use Rattle.dy_serve.proofs.Stopping.{cuts_behind, passed_on}
use Rattle.dy_serve.proofs.Stretching.{all_served}
use Rattle.dy_serve.proofs.serving.serve_planned.Goals as goal

pub returns-clause-served : goal.returns-clause-served
returns-clause-served g c =
    let setup = c.args.setup.now in
    let script = script_parts setup.script.now in
    let ring = setup.plan.now.ring in
    let head = first_lines script ring setup.with_steps in
    let planned = c.requires.planned in
    let all = c.in_ok-serve_clusters.ensures.served in
    let had = all.served in
    let served = all_served ring script setup.with_steps all.stop had.last
    _ _ had.text planned.laid_out planned.limits planned.quorum all.ended had.so in (
      had.so.bytes,
      head ++ had.text,
      served.0,
      served.1,
      Appends-trans _ _ _ head had.text c.in_ok-write_head.ensures had.wrote,
    )

-- what stops the clusters cuts the service
pub returns-in_err-serve_clusters-clause-only : goal.returns-in_err-serve_clusters-clause-only
returns-in_err-serve_clusters-clause-only g c =
    let setup = c.args.setup.now in
    let given = g.I.Read.remaining c.args.input.now in
    let before = g.O.Write.contents c.args.out.now in
    let between = g.O.Write.contents c.write_head.new.out in
    let after = g.O.Write.contents c.serve_clusters.new.out in
    let script = script_parts setup.script.now in
    let ring = setup.plan.now.ring in
    passed_on (StopsClusters (service_of script ring setup.with_steps) given between after)
    (λ f. CutsService script setup.with_steps given before after f ⊎ HasFailed f)
    c.in_err-serve_clusters.field-0.0 c.from_residual-in_err-serve_clusters.result
    c.from_residual-in_err-serve_clusters.ensures.1 c.in_err-serve_clusters.ensures.only
    (λ f. cuts_behind script ring setup.with_steps given before between after f
    c.requires.planned.laid_out c.in_ok-write_head.ensures)
