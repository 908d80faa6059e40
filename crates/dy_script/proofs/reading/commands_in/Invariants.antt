use Rattle.std.proofs.Common.{◌≡◌, ◌++◌, length, map}
use Rattle.dy_script.specs.Orders.{command_parts}
use Rattle.dy_script.specs.Reading.{command_at}
use Rattle.dy_script.proofs.ListsRead.{ReadsOn}
use Rattle.dy_script.proofs.reading.commands_in.Given as goal

abbrev pub invariant-loop-value : goal.invariant-loop-value
invariant-loop-value l = record {
  counted : l.number ≡ length l.yielded;
  whole : l.yielded ++ l.value-iterator.rest.items ≡ l.fn.list.items;
  read_so_far : ReadsOn (command_at l.nodes) l.fn.list.items l.value-iterator.rest.items (length l.yielded)
      (map command_parts l.found.items);
}
