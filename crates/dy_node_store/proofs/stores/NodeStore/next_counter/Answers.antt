use Rattle.std.proofs.Common.{◌<◌, ◌+◌, unwrap_or, refl, sym, ap, ◌∙◌, subst, arith}
use Rattle.dy_node_store.proofs.Hashed.{found}
use Rattle.dy_node_store.proofs.stores.NodeStore.next_counter.Goals as goal

-- what is read is the greatest counter used
pub returns-then-used-limit-clause-ok : goal.returns-then-used-limit-clause-ok
returns-then-used-limit-clause-ok c =
    let there = found _ _ _ _ _ (ap (λ kept. kept.counters) c.self.view_is) refl c.get.ensures.value in
    let used = c.unwrap_or-used.ensures ∙ ap (λ o. unwrap_or o 0) (c.copied.ensures ∙ sym there) in
    (subst (λ n. n < c.args.limit) used c.if-used-limit.true, ap (λ n. n + 1) used)

pub returns-then-used-limit-clause-fresh : goal.returns-then-used-limit-clause-fresh
returns-then-used-limit-clause-fresh c = omega (arith, (returns-then-used-limit-clause-ok c).1)

pub returns-else-used-limit-clause-ok : goal.returns-else-used-limit-clause-ok
returns-else-used-limit-clause-ok c less =
    let there = found _ _ _ _ _ (ap (λ kept. kept.counters) c.self.view_is) refl c.get.ensures.value in
    let used = c.unwrap_or-used.ensures ∙ ap (λ o. unwrap_or o 0) (c.copied.ensures ∙ sym there) in
    omega (arith, used, less, c.if-used-limit.false)
