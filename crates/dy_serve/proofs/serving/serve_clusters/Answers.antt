-- one cluster more was served in and closed behind those before it
use Rattle.std.proofs.Common.{◌≡◌, None, false, refl, rules, true}
use Rattle.std.specs.declared.marker.Brand.{Brand}
use Rattle.dy_cluster.specs.Settings.{setting}
use Rattle.dy_script.specs.Reading.{script_parts}
use Rattle.dy_serve.specs.Served.{service_of}
use Rattle.dy_serve.specs.declared.services.Stop.{Stop}
use Rattle.dy_serve.specs.inside.Shortages.{StopsCluster, StopsClusters}
use Rattle.dy_serve.proofs.Stopping.{passed_on, stops_first, stops_next}
use Rattle.dy_serve.proofs.Stretching.{has_served_first, has_served_next}
use Rattle.dy_serve.proofs.serving.serve_clusters.Goals as goal

pub loop-init : goal.loop-init
loop-init g c =
    let setup = c.args.setup.now in
    record {
      iterator = search rules;
      so_far = has_served_first _ setup.plan.now.options _ setup.with_steps _ _ _ _ _ _ _ _
          c.requires.planned.options refl refl c.in_ok-serve_cluster.ensures.served;
    }

pub loop-preserved : goal.loop-preserved
loop-preserved g c =
    let setup = c.args.setup.now in
    let renewed : c.loop.progress.stop.renews ≡ true = search rules in
    record {
      iterator = search rules;
      so_far = has_served_next _ setup.plan.now.options _ _ setup.with_steps _ _ _ _ _ _ _ _ _ _
          c.requires.planned.options refl renewed c.loop.invariant.so_far
          c.in_ok-serve_cluster-2.ensures.served;
    }

-- no line asks to renew the last cluster
pub returns-then-not-progress-clause-served : goal.returns-then-not-progress-clause-served
returns-then-not-progress-clause-served g c =
    record {
      closed = c.loop.progress.closed;
      stop = c.loop.progress.stop;
      ended = search rules;
      served = c.loop.invariant.so_far;
    }

-- the first cluster was not served in
pub returns-in_err-serve_cluster-clause-only : goal.returns-in_err-serve_cluster-clause-only
returns-in_err-serve_cluster-clause-only g c =
    let setup = c.args.setup.now in
    let given = g.I.Read.remaining c.args.input.now in
    let before = g.O.Write.contents c.args.out.now in
    let after = g.O.Write.contents c.serve_cluster.new.out in
    let plan = setup.plan.now in
    let begin : Stop = record { count = 0; renews = false; is_last = false } in
    let s = setting Brand plan.ring plan.options.n plan.options.r plan.options in
    let v = service_of (script_parts setup.script.now) plan.ring setup.with_steps in
    passed_on (StopsCluster s v.script None begin given before after)
    (StopsClusters v given before after) c.in_err-serve_cluster.field-0.0
    c.from_residual.result c.from_residual.ensures.1
    c.in_err-serve_cluster.ensures.only
    (λ f. stops_first v s None begin given before after f refl)

-- another one was not
pub returns-in_err-serve_cluster-2-clause-only : goal.returns-in_err-serve_cluster-2-clause-only
returns-in_err-serve_cluster-2-clause-only g c =
    let setup = c.args.setup.now in
    let given = g.I.Read.remaining c.args.input.now in
    let left = g.I.Read.remaining c.loop.input in
    let before = g.O.Write.contents c.args.out.now in
    let between = g.O.Write.contents c.loop.out in
    let after = g.O.Write.contents c.serve_cluster-in-loop.new.out in
    let plan = setup.plan.now in
    let progress = c.loop.progress in
    let script = script_parts setup.script.now in
    let renewed : progress.stop.renews ≡ true = search rules in
    passed_on (StopsCluster (setting Brand plan.ring plan.options.n plan.options.r plan.options)
    script progress.closed progress.stop left between after)
    (StopsClusters (service_of script plan.ring setup.with_steps) given before after)
    c.in_err-serve_cluster-2.field-0.0 c.from_residual-in_err-serve_cluster-2.result
    c.from_residual-in_err-serve_cluster-2.ensures.1 c.in_err-serve_cluster-2.ensures.only
    (λ f. stops_next plan.ring plan.options script setup.with_steps progress.stop progress.closed
    given left before between after f c.requires.planned.options renewed c.loop.invariant.so_far)
