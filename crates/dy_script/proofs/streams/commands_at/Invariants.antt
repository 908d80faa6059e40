use Rattle.std.proofs.Common.{◌≤◌, length, map}
use Rattle.dy_script.specs.Orders.{command_parts}
use Rattle.dy_script.specs.declared.scripts.TheConstants.{MAX_COMMANDS}
use Rattle.dy_script.proofs.CommandsRead.{HasCommands}
use Rattle.dy_script.proofs.streams.commands_at.Given as goal

abbrev pub invariant-commands : goal.invariant-commands
invariant-commands l = record {
  few : l.number ≤ MAX_COMMANDS;
  read : HasCommands l.nodes l.initial.reader l.number (map command_parts l.found.items) l.reader;
}

abbrev pub decreases-commands : goal.decreases-commands
decreases-commands l = length l.reader
