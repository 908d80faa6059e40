use Rattle.std.proofs.Common.{◌≡◌, ◌<◌, ◌++◌, ◌∷◌, [], length, set, sym, ap, ◌∙◌, subst, arith}
use Rattle.std.proofs.lemmas.List.{get_or_default, nil_from_length}
use Rattle.dy_index.specs.inside.Holders.{AreFilled, list_of}
use Rattle.dy_index.proofs.ByHolder.{fill_begins, fill_goes, fill_ends}
use Rattle.dy_index.proofs.holders.by_holder.Goals as goal

pub loop-holding-init : goal.loop-holding-init
loop-holding-init c =
    let held = c.args.held.items in
    let holders = c.in_ok-holders.holders.items in
    subst (λ r. AreFilled held r holders)
    (sym c.into_iter-holding-iterator.ensures.into_iter_gives.0)
    (fill_begins held holders c.in_ok-holders.ensures.many c.in_ok-holders.ensures.none)

-- the holding is put into the list of its holder
pub loop-holding-preserved : goal.loop-holding-preserved
loop-holding-preserved c =
    let held = c.args.held.items in
    let left = c.next.new.self.rest.items in
    let holders = c.loop-holding.holders.items in
    let x = c.in-Some.holding in
    let filled = subst (λ r. AreFilled held r holders) c.in-Some.ensures.steps.0
    c.loop-holding.invariant in
    let many = c.loop-holding.invariant.many in
    let small = c.number-at.ensures.small in
    let at : c.number-at.result ≡ x.holder = c.number-at.ensures.value in
    let few : x.holder < length holders = omega (arith, many, small, at) in
    let inside : c.number-at.result < length holders = omega (arith, many, small) in
    let old : c.behind-holders.inside.held.items ≡ list_of holders c.number-at.result =
    c.behind-holders.view_is
    ∙ (c.index_mut.ensures.value
    ∙ get_or_default holders c.number-at.result c.index_mut.result.now [] inside) in
    let new : c.push.new.self.items ≡ list_of holders x.holder ++ x ∷ [] =
    c.in_ok-push.ensures.items ∙ (ap (λ l. l ++ x ∷ []) (old ∙ ap (list_of holders) at)) in
    subst (AreFilled held left) (λ i. set holders (sym at i) (sym new i))
    (fill_goes held left holders x filled few)

pub returns-clause-ok : goal.returns-clause-ok
returns-clause-ok c =
    let holders = c.loop-holding.holders.items in
    let none = nil_from_length _
    (sym c.loop-holding.holding-iterator.rest.ok.0 ∙ c.in-None.ensures.steps.0) in
    fill_ends c.args.held.items holders
    (subst (λ r. AreFilled c.args.held.items r holders) none c.loop-holding.invariant)
