use Rattle.std.proofs.Common.{refl, arith}
use Rattle.dy_core.specs.Logs.{Answer}
use Rattle.dy_quorum.proofs.Firsts.{are_none}
use Rattle.dy_quorum.proofs.gatherings.Gathering.new.Goals as goal

-- nothing is there, and there is room
pub invariant_of-result : goal.invariant_of-result
invariant_of-result g c =
    let a = c.in_ok-seens.ensures.capacity in
    rw (c.in_ok-seens.ensures.items, c.new.ensures) (
      refl,
      are_none (λ (a : Answer). a.home),
      omega arith,
      omega arith,
      λ k d l. absurd (omega arith),
    )
