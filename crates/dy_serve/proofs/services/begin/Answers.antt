-- what is carried over is that of the cluster before
use Rattle.std.proofs.Common.{◌≡◌, ◌⊎◌, ap, inl, inr, ⊎_elim}
use Rattle.std.specs.Option.{option_copied}
use Rattle.std.specs.Prelude.{None, Some}
use Rattle.dy_dots.specs.declared.faults.Fault.TheVariants.{OutOfMemory}
use Rattle.dy_cluster.specs.Settings.{setting}
use Rattle.dy_script.specs.Reading.{script_parts}
use Rattle.dy_serve.specs.Refusals.{IsNotCarried}
use Rattle.dy_serve.specs.inside.Shortages.{StopsBeginning}
use Rattle.dy_serve.proofs.LineByLine.{begun_by}
use Rattle.dy_serve.proofs.Stopping.{passed_on}
use Rattle.dy_serve.proofs.services.begin.Goals as goal

pub returns-in-None-clause-begun : goal.returns-in-None-clause-begun
returns-in-None-clause-begun g c =
    let none : option_copied c.args.closed ≡ None = ap option_copied c.in-None.is in
    begun_by _ _ _ _ _ _ _ _ c.run_script.result none c.run_script.ensures.together
    c.run_script.ensures.wrote

pub returns-in_err-go_on-in-Some-clause-only : goal.returns-in_err-go_on-in-Some-clause-only
returns-in_err-go_on-in-Some-clause-only g c =
    let before = g.O.Write.contents c.args.out.now in
    let after = g.O.Write.contents c.go_on.new.out in
    let last = c.in-Some.closed.now in
    let s = setting g.row.J.Denot g.J.Naming.ring g.J.Naming.n g.J.Naming.r
    c.args.lent.now.cluster.now.options in
    let closed : option_copied c.args.closed ≡ Some last = ap option_copied c.in-Some.is in
    passed_on (λ f. (f ≡ OutOfMemory) ⊎ (IsNotCarried s last f × (after ≡ before)))
    (StopsBeginning s (script_parts c.args.script.now) (option_copied c.args.closed) before after)
    c.in_err-go_on-in-Some.field-0.0 c.from_residual.result c.from_residual.ensures.1
    c.in_err-go_on-in-Some.ensures.only
    (λ f. ⊎_elim inl (λ not. inr (inr (last, closed, not.0, not.1))))
