-- By whether a version is left of the merge.
use Rattle.std.proofs.Common.{Some, inr, refl, sym, ap, ◌∙◌, subst}
use Rattle.std.specs.List.{Contains}
use Rattle.dy_siblings.specs.Siblings.{Siblings}
use Rattle.dy_siblings.proofs.Members.{not_in_nil}
use Rattle.dy_node_store.specs.Absorbing.{IsMergeOf}
use Rattle.dy_node_store.proofs.RowLemmas.{has_version}
use Rattle.dy_node_store.proofs.row_maps.merge_over.Goals as goal

-- none is
pub returns-then-is_empty-clause-ok : goal.returns-then-is_empty-clause-ok
returns-then-is_empty-clause-ok c = (
  refl,
  inr (λ v h. not_in_nil v (subst (λ vs. Contains vs v)
      (c.is_empty.ensures.0 c.if-is_empty.true) ((c.in_ok-merged.ensures.ok v).1 h))),
)

-- one is: the merge is kept
pub returns-clause-ok : goal.returns-clause-ok
returns-clause-ok c =
    let versions = c.in_ok-merged.merged.versions in
    let key = c.in_ok-merged.ensures.key ∙ c.requires.of_key.0 in
    let merge_of : IsMergeOf c.args.kept.now c.args.row.now versions = record {
      one_key = c.requires.of_key;
      differ = c.requires.differ;
      merged = c.in_ok-merged.ensures.ok;
      filled = has_version _ _ c.is_empty.ensures.1 c.if-is_empty.false;
    } in (
      ap Some (sym c.replace-before.ensures.value),
      (
        versions,
        c.replace-before.ensures.after ∙ (λ i. record { key = key i; versions = versions }),
        subst (λ (k : Siblings). IsMergeOf k c.args.row.now versions)
            (sym c.replace-before.ensures.value) merge_of,
      ),
    )
