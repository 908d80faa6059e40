-- The seat that is taken is the last of those that are left, and its session goes to the end.
use Rattle.std.proofs.Common.{arith}
use Rattle.dy_clients.specs.Tellings.{as_answered}
use Rattle.dy_clients.proofs.Seated.{answered_next}
use Rattle.dy_clients.proofs.seats.rise_all.Goals as goal

pub loop-lock-preserved : goal.loop-lock-preserved
loop-lock-preserved g c =
    let before = c.loop-lock.invariant in
    let seat = c.into_inner-number.result in
    let session = c.in-Some-session.session in
    let pushed = c.push_reserved.ensures in
    let answered = c.push_reserved-in-Some.ensures in
    record {
      seated = omega (arith, before.seated, c.in-Some.ensures.len, pushed.len);
      memory = omega (arith, before.memory, pushed.capacity);
      answered = omega (arith, before.answered, pushed.len, answered.len);
      answers_memory = omega (arith, before.answers_memory, answered.capacity);
      told = λ are. answered_next (as_answered g.T.Telling.told) c.loop-lock.answers.items
          c.push_reserved-in-Some.new.self.items c.loop-lock.sessions.items
          c.push_reserved.new.self.items seat.answer session c.loop-lock.are_told seat.has_run
          seat.number c.len.result answered.items pushed.items are (omega (arith, c.len.ensures))
          before.answered before.told (λ run. seat.told run session c.in-Some-session.is);
    }
