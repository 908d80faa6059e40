use Rattle.std.proofs.Common.{map}
use Rattle.dy_script.proofs.FieldsRead.{HasKnown}
use Rattle.dy_script.proofs.fields.Fields.has_only.Given as goal

abbrev pub invariant-loop-place : goal.invariant-loop-place
invariant-loop-place l = HasKnown (map (λ name. name.now) l.names) l.self.places l.place
