use Rattle.std.proofs.Common.{rules, refl}
use Rattle.dy_repair.proofs.repairs.read_out.Goals as goal
use Rattle.dy_repair.proofs.repairs.read_out.Goals.{in-None, in-Some+in_default}

-- it ends where no answer was left
pub returns-clause-out : goal.returns-clause-out
returns-clause-out g c = elim c.match-next.branch [
  | in-None w ↦ absurd (search rules)
  | in-Some+in_default w ↦
      (let none = w.in_default.ensures.none in rw w.transport-is (rw none.0 refl, none.1))
]
