use Rattle.std.proofs.Common.{length}
use Rattle.dy_script.specs.inside.Fields.{members_told}
use Rattle.dy_script.proofs.FieldsRead.{HasFields}
use Rattle.dy_script.proofs.streams.read_fields.Given as goal

abbrev pub invariant-members : goal.invariant-members
invariant-members l = HasFields l.initial.reader (members_told l.fields) l.reader

abbrev pub decreases-members : goal.decreases-members
decreases-members l = length l.reader
