-- The first answer in line is read; where none is, the first of the second ones; and where none is
-- there either, each ask was answered.
use Rattle.std.proofs.Common.{◌≡◌, length, arith}
use Rattle.dy_transport.proofs.Waits.{first_next, none_next, second_next}
use Rattle.dy_transport.proofs.Waits.{all_read, first_reads, reads_first, reads_second}
use Rattle.dy_transport.proofs.Waits.{second_reads}
use Rattle.dy_transport.proofs.lines.Line.next.Goals as goal

pub invariant_of-self : goal.invariant_of-self
invariant_of-self g c =
    rw (c.read.ensures.told, c.in-Some.ensures.capacity) (
      reads_first _ _ _ c.in-Some.waiting _ _
          (rw c.in-Some.ensures.items at c.self.invariant.0),
      c.self.invariant.1,
      c.self.invariant.2,
    )

pub returns-in-Some-clause-some : goal.returns-in-Some-clause-some
returns-in-Some-clause-some g c =
    let is = first_reads _ _ _ c.in-Some.waiting _ _
    (rw c.in-Some.ensures.items at c.self.invariant.0) in
    rw (c.read.ensures.same, ← c.self.view_is)
    (c.in-Some.waiting.number, c.read.ensures.told, is.0, is.1)

pub invariant_of-self-in-Some-pop_front : goal.invariant_of-self-in-Some-pop_front
invariant_of-self-in-Some-pop_front g c =
    let none : length c.self.inside.first.items ≡ 0 =
    omega (arith, c.self.inside.first.ok, c.in_default.ensures.cases.0) in
    rw (
      c.read-in-Some-pop_front.ensures.told,
      c.in-Some-pop_front.ensures.capacity,
      c.in_default.ensures.capacity,
      ← c.in_default.ensures.items,
    ) (
      reads_second _ _ _ c.in-Some-pop_front.waiting _ _
          (rw c.in-Some-pop_front.ensures.items at c.self.invariant.0) none,
      c.self.invariant.1,
      c.self.invariant.2,
    )

pub returns-in-Some-pop_front-clause-some : goal.returns-in-Some-pop_front-clause-some
returns-in-Some-pop_front-clause-some g c =
    let is = second_reads _ _ _ c.in-Some-pop_front.waiting _ _
    (rw c.in-Some-pop_front.ensures.items at c.self.invariant.0) in
    rw (c.read-in-Some-pop_front.ensures.same, ← c.self.view_is)
    (c.in-Some-pop_front.waiting.number, c.read-in-Some-pop_front.ensures.told, is.0, is.1)

pub returns-in-Some-clause-next : goal.returns-in-Some-clause-next
returns-in-Some-clause-next g c =
    rw (c.read.ensures.same, ← c.self.view_is)
    (first_next c.self.inside.trail _ _ _ c.self.inside.second.items c.in-Some.waiting
    c.in-Some.ensures.items c.read.ensures.told)

pub returns-in-Some-pop_front-clause-next : goal.returns-in-Some-pop_front-clause-next
returns-in-Some-pop_front-clause-next g c =
    let none : length c.self.inside.first.items ≡ 0 =
    omega (arith, c.self.inside.first.ok, c.in_default.ensures.cases.0) in
    rw (c.read-in-Some-pop_front.ensures.same, ← c.self.view_is)
    (second_next c.self.inside.trail _ _ _ _ _ c.in-Some-pop_front.waiting none
    c.in_default.ensures.items c.in-Some-pop_front.ensures.items
    c.read-in-Some-pop_front.ensures.told)

pub returns-clause-next : goal.returns-clause-next
returns-clause-next g c =
    let none : length c.self.inside.first.items ≡ 0 =
    omega (arith, c.self.inside.first.ok, c.in_default.ensures.cases.0) in
    let nor : length c.self.inside.second.items ≡ 0 =
    omega (arith, c.self.inside.second.ok, c.in_default-pop_front.ensures.cases.0) in
    rw (← c.self.view_is)
    (none_next c.self.inside.trail _ _ _ _ _ none nor c.in_default.ensures.items
    c.in_default-pop_front.ensures.items c.note_none.ensures)

pub returns-clause-none : goal.returns-clause-none
returns-clause-none g c =
    let none : length c.self.inside.first.items ≡ 0 =
    omega (arith, c.self.inside.first.ok, c.in_default.ensures.cases.0) in
    rw c.note_none.ensures (all_read _ _ _ _ _ c.self.invariant.0 none)
