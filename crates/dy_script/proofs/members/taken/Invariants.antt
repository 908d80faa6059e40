use Rattle.std.proofs.Common.{◌≡◌, ◌++◌, option_map}
use Rattle.json.specs.Find as find
use Rattle.json.specs.Value.{value_view, members_view}
use Rattle.dy_script.proofs.members.taken.Given as goal

abbrev pub invariant-loop-key : goal.invariant-loop-key
invariant-loop-key l = record {
  last : option_map value_view l.found ≡ find.get_member l.name (members_view l.yielded);
  whole : l.yielded ++ l.key-iterator.rest.items ≡ l.initial.key-iterator.rest.items;
}
