use Rattle.std.proofs.Common.{◌∙◌, ap, sym, ◌++◌, ◌∷◌, [], arith, map}
use Rattle.std.specs.List.{range_with_len}
use Rattle.std.proofs.lemmas.List.{map_push}
use Rattle.std.proofs.lemmas.List.FromFn.{map-range_with_len_more}
use Rattle.dy_ring.specs.Lists.{derived_list}
use Rattle.dy_ring.proofs.givens.lists_of.Goals as goal

-- one list more
pub loop-node-preserved : goal.loop-node-preserved
loop-node-preserved c =
    let e = map-range_with_len_more (λ node. derived_list node c.args.per_node) 0 c.loop-node.node c.loop-node.node (omega arith) in
    ap (map (λ list. list.items)) c.in_ok-push.ensures.items
    ∙ map_push (λ list. list.items) c.loop-node.lists.items c.in_ok-list_of.field-0
    ∙ ap (λ ls. ls ++ c.in_ok-list_of.field-0.items ∷ []) c.loop-node.invariant
    ∙ ap (λ l. map (λ node. derived_list node c.args.per_node) (range_with_len 0 c.loop-node.node) ++ l ∷ []) c.in_ok-list_of.ensures.ok
    ∙ sym e
