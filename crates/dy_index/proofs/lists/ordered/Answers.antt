use Rattle.std.proofs.Common.{rules, ◌≡◌, eqb, sym, ◌∙◌, subst}
use Rattle.std.specs.Ordering.{is_lt, ordering_index}
use Rattle.std.specs.List.{dedup}
use Rattle.std.proofs.lemmas.Cmp.{is_eq_index}
use Rattle.std.proofs.lemmas.Fn.{always_returns_same, dedup_same}
use Rattle.std.proofs.lemmas.List.Sorted.{ranks_by}
use Rattle.dy_index.specs.Lists.{IsInOrder}
use Rattle.dy_index.proofs.Sorting.{order_is}
use Rattle.dy_index.proofs.lists.ordered.Goals as goal

-- both closures answer by the order
pub returns-clause-ok : goal.returns-clause-ok
returns-clause-ok g c =
    let R = g.T.Ranked.ranked in
    let sorted = c.sort_by.new.self.items in
    let up = c.in_ok-sort_by.ensures.sorted (λ x y. is_lt (R x y)) (ranks_by c.requires (λ x. x))
    (always_returns_same _ (λ a r. is_lt r ≡ is_lt (R a.0.now a.1.0.now)) _
    (λ a r f' k. search rules)) in
    let left = dedup_same _ (λ x y. eqb (ordering_index (R x y)) 1) _
    (λ x y b f' x' y' k. search rules) _ _ c.dedup_by.ensures.filtered in
    subst (IsInOrder R c.args.items.items)
    ((λ i. dedup (λ x y. is_eq_index (R x y) i) sorted) ∙ sym left)
    (order_is R c.requires c.args.items.items sorted c.sort_by.ensures.permutation up)
