use Rattle.std.proofs.Common.{[], ap, ◌∙◌, subst}
use Rattle.dy_core.specs.Orders.{holding_cmp}
use Rattle.dy_index.specs.Lists.{IsInOrder}
use Rattle.dy_index.specs.inside.Listed.{held_in_all}
use Rattle.dy_index.proofs.Listing.{holdings_listed}
use Rattle.dy_index.proofs.listings.held.Goals as goal

pub returns-clause-ok : goal.returns-clause-ok
returns-clause-ok c = λ w index.
    holdings_listed w c.args.keys.now.entries index c.in_ok-entries.entries.items
    c.in_ok-entries.ensures.ok c.in_ok-held.held.items
    (subst (λ xs. IsInOrder holding_cmp xs c.in_ok-held.held.items)
    (c.in_ok-listed.ensures.ok ∙ ap (held_in_all []) c.as_slice.ensures.value)
    c.in_ok-held.ensures.ok)
