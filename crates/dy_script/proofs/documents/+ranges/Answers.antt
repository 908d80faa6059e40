use Rattle.std.proofs.Common.{◌<◌, length, sym, subst, arith, rules}
use Rattle.json.proofs.Trees.{item_smaller, member_smaller}
use Rattle.json.specs.Tree.{json_tokens, items_tokens, members_tokens}
use Rattle.json.specs.Value.{value_view, items_view, members_view}
use Rattle.dy_script.proofs.documents.+ranges.Goals as goal

-- an item has fewer tokens than its list
pub are_items_in_range-is_in_range-requires : goal.are_items_in_range-is_in_range-requires
are_items_in_range-is_in_range-requires t c =
    let vs = c.args.items.now in
    let x = c.item-item.result in
    let smaller : length (json_tokens (value_view x)) < length (items_tokens (items_view vs)) =
    subst (λ y. length (json_tokens (value_view y)) < length (items_tokens (items_view vs))) (sym c.item-item.is) (item_smaller vs c.loop-item.item-index x (omega arith)) in
    search rules

-- a member has fewer tokens than its object
pub are_members_in_range-is_in_range-requires : goal.are_members_in_range-is_in_range-requires
are_members_in_range-is_in_range-requires t c =
    let ms = c.args.members.now in
    let x = c.member-item.result in
    let smaller : length (json_tokens (value_view x.1)) < length (members_tokens (members_view ms)) =
    subst (λ y. length (json_tokens (value_view y.1)) < length (members_tokens (members_view ms))) (sym c.member-item.is) (member_smaller ms c.loop-member.member-index x (omega arith)) in
    search rules
