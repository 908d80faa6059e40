use Rattle.std.proofs.Common.{◌++◌, List, take, sym, ap, ◌∙◌, subst, arith, ◌∷◌, []}
use Rattle.std.proofs.lemmas.List.{append_assoc}
use Rattle.dy_siblings.specs.declared.versions.Version.{Version}
use Rattle.dy_index.specs.Lists.{AreCounted}
use Rattle.dy_index.proofs.Picking.{all_named, named_by, one_named, run_start}
use Rattle.dy_index.proofs.rows.add_run.Goals as goal

pub loop-at-init : goal.loop-at-init
loop-at-init c =
    let r = c.args.run.now in
    let counted = subst (AreCounted r.node 0) (sym c.versions_by-made.ensures) c.requires.counted in
    record {
      low = omega (arith, c.requires.low);
      given = run_start r c.versions_by-made.result.now c.args.versions.now.items counted
          c.requires.low;
    }

-- the version at the place is the next that the run names
pub loop-at-preserved : goal.loop-at-preserved
loop-at-preserved c =
    let r = c.args.run.now in
    let old = c.args.versions.now.items in
    let made = c.versions_by-made.result.now in
    let at = c.loop-at.at in
    let v = c.index-made-at.result in
    let counted = subst (AreCounted r.node 0) (sym c.versions_by-made.ensures) c.requires.counted in
    record {
      low = let low = c.loop-at.invariant.low in omega (arith, low);
      given = c.in_ok-push.ensures.items
          ∙ ap (λ (u : Version). c.loop-at.versions.items ++ u ∷ []) c.in_ok-try_clone.ensures.value
          ∙ ap (λ (us : List Version). us ++ v ∷ []) c.loop-at.invariant.given
          ∙ append_assoc old (named_by r (take at made)) (v ∷ [])
          ∙ ap (λ (us : List Version). old ++ us)
          (sym (one_named r made at v counted
          (let end = c.min-end.ensures in omega (arith, c.loop-at-test.true, end)) c.index-made-at.is
          c.loop-at.invariant.low
          (let end = c.min-end.ensures in omega (arith, c.loop-at-test.true, end))));
    }

pub returns-clause-ok : goal.returns-clause-ok
returns-clause-ok c =
    let r = c.args.run.now in
    let old = c.args.versions.now.items in
    let made = c.versions_by-made.result.now in
    let counted = subst (AreCounted r.node 0) (sym c.versions_by-made.ensures) c.requires.counted in
    c.loop-at.invariant.given
    ∙ ap (λ (us : List Version). old ++ us)
    (all_named r 0 made c.loop-at.at counted
    (λ some more. let end = c.min-end.ensures in
    omega (arith, some, more, c.loop-at-test.false, end)))
    ∙ ap (λ (us : List Version). old ++ named_by r us) c.versions_by-made.ensures
