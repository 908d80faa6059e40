use Rattle.std.proofs.Common.{sym, ◌∙◌, subst}
use Rattle.dy_core.specs.Logs.{world_after}
use Rattle.dy_core.specs.inside.Meanings.{settled_in}
use Rattle.dy_core.specs.Listings.{ListsSettled}
use Rattle.dy_core.specs.Orders.{key_cmp, gathered}
use Rattle.dy_core.proofs.Listed.{keys_listed}
use Rattle.dy_core.proofs.worlds.World.settled.Goals as goal

pub returns-clause-ok : goal.returns-clause-ok
returns-clause-ok c =
    subst (λ keys. ListsSettled (world_after c.args.self.now.steps) keys)
    (sym (c.in_ok-keys.ensures.ok
    ∙ (λ i. gathered key_cmp (λ v. settled_in (c.as_slice.ensures.value i) v.key) (λ v. v.key) (c.as_slice-2.ensures.value i))))
    (subst (λ log. ListsSettled (world_after log.steps)
    (gathered key_cmp (λ v. settled_in c.self.inside.held.items v.key) (λ v. v.key) c.self.inside.versions.items)) c.self.view_is
    (keys_listed _ _ _ _ _ c.self.invariant.after))
