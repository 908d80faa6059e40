use Rattle.std.proofs.Common.{length}
use Rattle.json.specs.Tree.{json_tokens, items_tokens, members_tokens}
use Rattle.json.specs.Value.{value_view, items_view, members_view}
use Rattle.dy_script.proofs.Ranges.{AreInRange, HaveRange}
use Rattle.dy_script.proofs.documents.+ranges.Given as goal

abbrev pub decreases-is_in_range : goal.decreases-is_in_range
decreases-is_in_range l = length (json_tokens (value_view l.value.now))

abbrev pub decreases-are_items_in_range : goal.decreases-are_items_in_range
decreases-are_items_in_range l = length (items_tokens (items_view l.items.now))

abbrev pub decreases-are_members_in_range : goal.decreases-are_members_in_range
decreases-are_members_in_range l = length (members_tokens (members_view l.members.now))

abbrev pub invariant-are_items_in_range-loop-item : goal.invariant-are_items_in_range-loop-item
invariant-are_items_in_range-loop-item l = AreInRange l.items l.item-index

abbrev pub invariant-are_members_in_range-loop-member : goal.invariant-are_members_in_range-loop-member
invariant-are_members_in_range-loop-member l = HaveRange l.members l.member-index
