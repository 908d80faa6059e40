use Rattle.std.proofs.Common.{List, sym, ap, ◌∙◌, subst, ◌++◌}
use Rattle.std.specs.Option.{option_copied}
use Rattle.std.proofs.lemmas.List.{take_all}
use Rattle.dy_siblings.specs.declared.versions.Version.{Version}
use Rattle.dy_core.proofs.Runs.{run_low}
use Rattle.dy_index.specs.Indexes.{made_by, made_in}
use Rattle.dy_index.specs.Lists.{AreCounted}
use Rattle.dy_index.specs.Readings.{AreOfDots}
use Rattle.dy_index.proofs.Picking.{named_by, picked, picked_are, picked_more}
use Rattle.dy_index.proofs.rows.versions_of.Goals as goal

pub add_run-requires-clause-low : goal.add_run-requires-clause-low
add_run-requires-clause-low c =
    let of = c.requires.of_dots in
    run_low c.args.runs.now of.0 of.1 c.loop-run.run-index c.run-item.result c.loop-run-test.true
    c.run-item.is of.2

pub add_run-requires-clause-counted : goal.add_run-requires-clause-counted
add_run-requires-clause-counted c =
    let n = c.run-item.result.node in
    subst (λ o. AreCounted n 0 (made_in o n)) (ap option_copied c.in-Some.is) (c.requires.counted n)

pub loop-run-preserved : goal.loop-run-preserved
loop-run-preserved c =
    let made = made_by c.in-Some.known.now in
    let i = c.loop-run.run-index in
    let r = c.run-item.result in
    c.in_ok-add_run.ensures.ok
    ∙ ap (λ (vs : List Version). vs ++ named_by r (made r.node)) c.loop-run.invariant
    ∙ sym (picked_more made c.args.runs.now i r c.loop-run-test.true c.run-item.is)

pub returns-clause-ok : goal.returns-clause-ok
returns-clause-ok c = λ dots are.
    let made = made_by c.in-Some.known.now in
    let runs = c.args.runs.now in
    subst (λ o. AreOfDots (made_in o) dots c.loop-run.versions.items)
    (sym (ap option_copied c.in-Some.is))
    (subst (AreOfDots made dots)
    (sym (c.loop-run.invariant
    ∙ ap (picked made) (take_all c.loop-run.run-index runs c.loop-run-test.false)))
    (picked_are made
    (λ n. subst (λ o. AreCounted n 0 (made_in o n)) (ap option_copied c.in-Some.is)
    (c.requires.counted n))
    runs dots are))
