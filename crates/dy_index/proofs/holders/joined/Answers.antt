use Rattle.std.proofs.Common.{◌+◌, sym, ◌∙◌, subst}
use Rattle.std.proofs.lemmas.List.{nil_from_length}
use Rattle.dy_core.specs.Orders.{holding_cmp}
use Rattle.dy_core.proofs.Held.{holding_cmp_total}
use Rattle.dy_index.specs.Lists.{IsInOrder}
use Rattle.dy_index.specs.inside.Holders.{AreByHolder, held_below}
use Rattle.dy_index.proofs.ByHolder.{join_begins, join_goes, join_ends}
use Rattle.dy_index.proofs.holders.joined.Goals as goal

pub ordered-requires : goal.ordered-requires
ordered-requires c = holding_cmp_total

pub loop-holder-init : goal.loop-holder-init
loop-holder-init c = λ held are. (
  0,
  subst (AreByHolder 0 held) (sym c.into_iter-holder-iterator.ensures.into_iter_gives.0) are,
  subst (IsInOrder holding_cmp (held_below 0 held)) (sym c.new-all.ensures.items)
      (join_begins held),
)

-- the next holder's list stands behind the others
pub loop-holder-preserved : goal.loop-holder-preserved
loop-holder-preserved c = λ held are.
    let inv = c.loop-holder.invariant held are in
    let parts = subst (AreByHolder inv.0 held) c.in-Some.ensures.steps.0 inv.1 in
    let sorted = c.in_ok-sorted.sorted.items in
    let order = subst (λ xs. IsInOrder holding_cmp xs sorted) c.holder.view_is
    c.in_ok-sorted.ensures.ok in (
      inv.0 + 1,
      parts.1,
      subst (IsInOrder holding_cmp (held_below (inv.0 + 1) held)) (sym c.in_ok-append.ensures.items)
          (join_goes inv.0 held c.in-Some.holder c.loop-holder.all.items sorted parts.0 inv.2 order),
    )

pub returns-clause-ok : goal.returns-clause-ok
returns-clause-ok c = λ held are.
    let inv = c.loop-holder.invariant held are in
    let none = nil_from_length _
    (sym c.loop-holder.holder-iterator.rest.ok.0 ∙ c.in-None.ensures.steps.0) in
    join_ends inv.0 held c.loop-holder.all.items (subst (AreByHolder inv.0 held) none inv.1) inv.2
