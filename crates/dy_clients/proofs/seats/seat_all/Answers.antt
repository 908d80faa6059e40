-- The session that is taken is the last of those that are left.
use Rattle.std.proofs.Common.{◌∙◌, ◌∷◌, [], length, length-append, ap, subst, arith}
use Rattle.std.specs.List.{All}
use Rattle.dy_cluster.specs.Tellings.{IsUntold}
use Rattle.dy_clients.proofs.Seated.{all_front}
use Rattle.dy_clients.proofs.seats.seat_all.Goals as goal

pub seat_next-requires-clause-number : goal.seat_next-requires-clause-number
seat_next-requires-clause-number g c =
    omega (
      arith,
      c.loop-session.invariant.0,
      c.len-count.ensures,
      c.len.ensures,
      ap length c.in-Some.ensures.items
          ∙ length-append c.pop.new.self.items (c.in-Some.session ∷ []),
    )

pub loop-session-preserved : goal.loop-session-preserved
loop-session-preserved g c =
    let before = c.loop-session.invariant in
    let rest = c.pop.new.self.items in
    let last = c.in-Some.session ∷ [] in
    let taken = c.in-Some.ensures.items in (
      omega (arith, before.0, c.seat_next.ensures.count, ap length taken ∙ length-append rest last),
      c.seat_next.ensures.memory ∙ before.1,
      c.in-Some.ensures.capacity ∙ before.2,
      all_front IsUntold rest last (subst (All IsUntold) taken before.3),
    )
