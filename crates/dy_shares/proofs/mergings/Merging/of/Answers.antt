use Rattle.std.proofs.Common.{◌≡◌, false, sym, ap, ◌∙◌, subst}
use Rattle.std.specs.List.{All}
use Rattle.dy_siblings.specs.Siblings.{Siblings, IsSiblingSet, is_past}
use Rattle.dy_core.specs.Worlds.{layout_of}
use Rattle.dy_shares.specs.Merged.{AreOfLog}
use Rattle.dy_shares.proofs.Mergeable.{of_log_answer, merge_of_one}
use Rattle.dy_shares.proofs.mergings.Merging.of.Goals as goal

-- the copy is the answer's row, which the log had when it was seen
pub invariant_of-result : goal.invariant_of-result
invariant_of-result g c =
    let layout = layout_of g.J.Naming.ring g.J.Naming.n in
    let a = c.args.seen.now in
    let same = c.in_ok-try_clone.ensures.ok ∙ c.row.ensures in
    subst (λ (r : Siblings). AreOfLog layout c.copied.result r.key r.versions) (sym same)
    (subst (λ f. AreOfLog layout f a.key a.row) (sym c.copied.ensures)
    (of_log_answer layout c.front.result.now a c.front.ensures.legal c.front.ensures.is))

pub returns-clause-merged : goal.returns-clause-merged
returns-clause-merged g c =
    let a = c.args.seen.now in
    let same = c.in_ok-try_clone.ensures.ok ∙ c.row.ensures in
    let row_is = ap (λ (r : Siblings). r.versions) same in
    let valid : IsSiblingSet c.in_ok-try_clone.field-0.key c.in_ok-try_clone.field-0.versions =
    c.in_ok-try_clone.ensures.valid in
    merge_of_one (layout_of g.J.Naming.ring g.J.Naming.n) _ a
    (ap (λ (r : Siblings). r.key) same) row_is (invariant_of-result g c)
    (subst (λ vs. All (λ v. is_past vs v.dot ≡ false) vs) row_is valid.none_past)
