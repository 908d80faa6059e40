use Rattle.std.proofs.Common.{◌≡◌, true, sym, ap, ◌∙◌, subst}
use Rattle.std.specs.List.{All}
use Rattle.dy_preference.specs.Preferences.{homes_of, is_home}
use Rattle.dy_core.specs.Logs.{world_after}
use Rattle.dy_core.specs.Listings.{ListsCovers, is_covering, place_of}
use Rattle.dy_core.specs.Orders.{place_cmp, gathered}
use Rattle.dy_core.proofs.Listed.{covers_homes, covers_listed}
use Rattle.dy_core.proofs.worlds.World.covers.Goals as goal

pub returns-clause-ok : goal.returns-clause-ok
returns-clause-ok c =
    subst (λ ps. ListsCovers (world_after c.args.self.now.steps) c.args.key.now c.args.dot ps)
    (sym (c.in_ok-places.ensures.ok ∙ ap (gathered place_cmp (is_covering c.args.key.now c.args.dot) place_of) c.as_slice.ensures.value))
    (subst (λ log. ListsCovers (world_after log.steps) c.args.key.now c.args.dot
    (gathered place_cmp (is_covering c.args.key.now c.args.dot) place_of c.self.inside.held.items)) c.self.view_is
    (covers_listed _ _ _ _ c.self.invariant.after.meets c.args.key.now c.args.dot))

-- each place covers, and who covers in a legal world covers for a home
pub returns-clause-homes : goal.returns-clause-homes
returns-clause-homes c =
    subst (All (λ p. is_home (homes_of c.args.self.now.ring c.args.self.now.n c.args.key.now) p.home ≡ true))
    (sym (c.in_ok-places.ensures.ok ∙ ap (gathered place_cmp (is_covering c.args.key.now c.args.dot) place_of) c.as_slice.ensures.value))
    (subst (λ log. All (λ p. is_home (homes_of log.ring log.n c.args.key.now) p.home ≡ true)
    (gathered place_cmp (is_covering c.args.key.now c.args.dot) place_of c.self.inside.held.items)) c.self.view_is
    (covers_homes _ _ _ _ _ c.self.invariant.after c.args.key.now c.args.dot))
