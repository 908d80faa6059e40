use Rattle.std.proofs.Common.{sym, subst}
use Rattle.json.specs.Json as json
use Rattle.serde_json.specs.Data.{Members, object}
use Rattle.dy_script.specs.Orders.{command_of, command_parts}
use Rattle.dy_script.specs.inside.Readings.{IsReadingOf}
use Rattle.dy_script.proofs.CommandsRead.{command_read}
use Rattle.dy_script.proofs.FieldsRead.{told_read}
use Rattle.dy_script.proofs.streams.command_at.Goals as goal

-- the command is that of the object that was read
pub returns : goal.returns
returns c =
    let told = c.in-Some.ensures in
    command_read command_parts c.args.nodes c.args.number c.args.reader.now c.read_fields.new.reader (json.object told.members) c.command_in.result
    (told_read c.args.reader.now c.read_fields.new.reader _ told) told.ranged
    (subst (λ (ms : Members). IsReadingOf command_parts c.command_in.result (command_of c.args.nodes c.args.number (object ms))) (sym told.says) c.command_in.ensures)
