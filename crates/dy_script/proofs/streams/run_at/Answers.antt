use Rattle.std.proofs.Common.{map, subst}
use Rattle.dy_script.specs.Orders.{command_parts}
use Rattle.dy_script.specs.inside.Streams.{AreCommands}
use Rattle.dy_script.proofs.streams.run_at.Goals as goal

-- the end of the script is all that is left
pub returns-then-ends : goal.returns-then-ends
returns-then-ends c =
    subst (AreCommands c.args.nodes c.args.reader.now (map command_parts c.in_ok-run.run'.items)) (c.ends.ensures c.if-ends.true) c.in_ok-run.ensures
