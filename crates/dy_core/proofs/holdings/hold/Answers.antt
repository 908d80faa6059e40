use Rattle.std.proofs.Common.{◌≡◌, ap, ◌∙◌, subst}
use Rattle.dy_siblings.specs.Siblings.{IsSameRow, merge}
use Rattle.dy_core.specs.inside.Meanings.{row_in}
use Rattle.dy_core.proofs.holdings.hold.Goals as goal

pub returns-clause-ok : goal.returns-clause-ok
returns-clause-ok c =
    let first : c.in_ok-merged.merged ≡ record { key = c.args.row.now.key; versions = row_in c.args.held.now.items c.args.holder c.args.home c.args.row.now.key } =
    c.in_ok-merged.ensures.ok
    ∙ (λ i. record { key = c.key.ensures i; versions = row_in (c.as_slice.ensures.value i) c.args.holder c.args.home (c.key.ensures i) }) in (
      c.merge.new.self,
      c.in_ok-merge.ensures.key ∙ ap (λ r. r.key) first,
      subst (λ r. IsSameRow c.merge.new.self.versions (merge r.versions c.args.row.now.versions)) first c.in_ok-merge.ensures.ok,
      c.in_ok-keep.ensures.ok,
    )
