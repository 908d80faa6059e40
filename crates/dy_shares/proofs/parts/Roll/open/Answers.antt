use Rattle.std.proofs.Common.{sym, ap, ◌∙◌}
use Rattle.dy_shares.proofs.Agreements.{opens_as}
use Rattle.dy_shares.proofs.parts.Roll.open.Goals as goal

pub split_seat-party-requires : goal.split_seat-party-requires
split_seat-party-requires g c =
    let i = c.self.invariant in (
      i.1 ∙ sym i.0,
      i.2,
      opens_as c.self.inside.keeper.id c.self.inside.keeper.me.0
          c.self.inside.keeper.me.0.parts (ap (λ m. m.0) i.3),
    )
