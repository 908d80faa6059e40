-- what refused it is no fault of the plan
use Rattle.std.proofs.Common.{◌≡◌, ◌⊎◌, inl, inr, rules, subst, ⊎_elim}
use Rattle.std.specs.declared.marker.Brand.{Brand}
use Rattle.dy_dots.specs.declared.faults.Fault.TheVariants.{SharesMissing}
use Rattle.dy_ring.specs.Rings.{Tokens}
use Rattle.dy_cluster.specs.Refusals.{IsOpenRefusal}
use Rattle.dy_cluster.specs.Settings.{setting}
use Rattle.dy_script.specs.Reading.{script_parts}
use Rattle.dy_serve.specs.inside.Shortages.{StopsCluster, StopsServing}
use Rattle.dy_serve.proofs.Stopping.{plan_stops, refused_for}
use Rattle.dy_serve.proofs.serving.close_served.Goals as goal

pub returns-in_err-ended-clause-only : goal.returns-in_err-ended-clause-only
returns-in_err-ended-clause-only g c =
    let setup = c.args.setup.now in
    let contents = g.O.Write.contents in
    let plan = setup.plan.now in
    let script = script_parts setup.script.now in
    let progress = c.args.progress.now in
    let given = g.I.Read.remaining c.args.input.now in
    let before = contents c.args.out.now in
    let work = c.with_marked_cluster-ended.new.work in
    let after = contents work.out.now in
    let last = contents c.out-in_default-1.given.0 in
    let e = c.in_err-ended.field-0.0 in
    let options = plan.options in
    let ring = c.in_ok-ring.ring in
    let same_ring = c.in_ok-ring.ensures.ok in
    let stops : (e ≡ SharesMissing)
    ⊎ StopsServing (setting Brand plan.ring options.n options.r options) script progress.closed
    progress.stop given before last e =
    plan_stops script plan e (StopsServing (setting Brand plan.ring options.n options.r options)
    script progress.closed progress.stop given before last e) c.requires.planned
    (λ memory. inl (inl memory))
    (⊎_elim (λ unopened. inl (subst (λ (r : Tokens). IsOpenRefusal options r.nodes e) same_ring unopened))
    (⊎_elim (λ missing. inr (inl missing))
    (λ refused.
    let same : after ≡ last = search (rules, refused.0) in
    inr (inr (subst (λ (r : Tokens). StopsServing (setting Brand r options.n options.r options)
    script progress.closed progress.stop given before last e) same_ring
    (subst (λ x. StopsServing (setting Brand ring options.n options.r options) script
    progress.closed progress.stop given before x e) same refused.1)))))
    c.in_err-ended.ensures.only) in
    refused_for (StopsCluster (setting Brand plan.ring options.n options.r options) script
    progress.closed progress.stop given before last) e c.from_residual-in_err-ended.result
    c.from_residual-in_err-ended.ensures.1 stops
