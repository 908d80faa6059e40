-- What was merged so far and the answer are of one legal log: that is all three goals' ground.
use Rattle.std.proofs.Common.{◌≡◌, ◌++◌, sym, ap, ◌∙◌, subst}
use mathlib.Core.List.{IsPrefix}
use Rattle.dy_siblings.specs.Siblings.{Siblings, IsSameRow, merge}
use Rattle.dy_core.specs.Worlds.{layout_of}
use Rattle.dy_shares.specs.Merged.{Merged, AreOfLog}
use Rattle.dy_shares.proofs.Mergeable.{of_log_agree, of_log_answer, of_log_more, of_log_merged}
use Rattle.dy_shares.proofs.Mergeable.{merge_of_more}
use Rattle.dy_shares.proofs.mergings.Merging.add.Goals as goal

pub merge-requires-clause-agree : goal.merge-requires-clause-agree
merge-requires-clause-agree g c =
    let layout = layout_of g.J.Naming.ring g.J.Naming.n in
    let m = c.self.inside in
    let a = c.args.seen.now in
    let ys = c.row.result.now.versions in
    let key_is : a.key ≡ m.row.key = c.requires ∙ sym (ap (λ (x : Merged). x.key) c.self.view_is) in
    let row_is : ys ≡ a.row = ap (λ (r : Siblings). r.versions) c.row.ensures in
    let own : IsPrefix m.front c.join.new.self =
    subst (λ f. IsPrefix f c.join.new.self) c.copied-front.ensures c.join.ensures.own in
    let both = of_log_more layout m.front c.front.result.now c.join.new.self m.row.key
    m.row.versions ys a key_is row_is own c.join.ensures.other c.self.invariant
    c.front.ensures.legal c.front.ensures.is in
    of_log_agree layout c.join.new.self m.row.key (m.row.versions ++ ys) both

pub invariant_of-self-2 : goal.invariant_of-self-2
invariant_of-self-2 g c =
    let layout = layout_of g.J.Naming.ring g.J.Naming.n in
    let m = c.self.inside in
    let a = c.args.seen.now in
    let ys = c.row.result.now.versions in
    let key_is : a.key ≡ m.row.key = c.requires ∙ sym (ap (λ (x : Merged). x.key) c.self.view_is) in
    let row_is : ys ≡ a.row = ap (λ (r : Siblings). r.versions) c.row.ensures in
    let own : IsPrefix m.front c.join.new.self =
    subst (λ f. IsPrefix f c.join.new.self) c.copied-front.ensures c.join.ensures.own in
    let both = of_log_more layout m.front c.front.result.now c.join.new.self m.row.key
    m.row.versions ys a key_is row_is own c.join.ensures.other c.self.invariant
    c.front.ensures.legal c.front.ensures.is in
    subst (λ k. AreOfLog layout c.join.new.self k c.merge.new.self.versions)
    (sym c.in_ok-merge.ensures.key)
    (of_log_merged layout c.join.new.self m.row.key m.row.versions ys c.merge.new.self.versions
    c.in_ok-merge.ensures.ok both)

pub returns-clause-merged : goal.returns-clause-merged
returns-clause-merged g c answers is =
    let layout = layout_of g.J.Naming.ring g.J.Naming.n in
    let old = c.args.self.now in
    let a = c.args.seen.now in
    let new = c.merge.new.self in
    let inner = c.copied-front.ensures ∙ ap (λ (x : Merged). x.front) c.self.view_is in
    let own : IsPrefix old.front c.join.new.self =
    subst (λ f. IsPrefix f c.join.new.self) inner c.join.ensures.own in
    let merged : IsSameRow new.versions (merge old.versions a.row) =
    subst (λ vs. IsSameRow new.versions (merge vs a.row))
    (ap (λ (x : Merged). x.versions) c.self.view_is)
    (subst (λ vs. IsSameRow new.versions (merge c.self.inside.row.versions vs))
    (ap (λ (r : Siblings). r.versions) c.row.ensures) c.in_ok-merge.ensures.ok) in
    merge_of_more layout old
    (record { key = new.key; versions = new.versions; front = c.join.new.self }) a c.requires
    (c.in_ok-merge.ensures.key ∙ ap (λ (x : Merged). x.key) c.self.view_is) own c.front.result.now
    c.join.ensures.other
    (of_log_answer layout c.front.result.now a c.front.ensures.legal c.front.ensures.is) merged
    answers is
