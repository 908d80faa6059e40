-- The list of holdings means the world, so the row that is found in it is the one that is held.
use Rattle.std.proofs.Common.{◌≡◌, ◌<◌, [], length, MatchOption, sym, subst}
use Rattle.std.specs.List.{Contains}
use Rattle.dy_siblings.specs.Siblings.{IsSameRow}
use Rattle.dy_siblings.specs.declared.versions.Version.{Version}
use Rattle.dy_core.specs.Worlds.{row_at}
use Rattle.dy_core.specs.Logs.{world_after}
use Rattle.dy_core.specs.inside.Meanings.{row_in}
use Rattle.dy_core.specs.declared.holdings.Holding.{Holding}
use Rattle.dy_core.proofs.Listed.{none_at, option_weaker, row_some}
use Rattle.dy_core.proofs.worlds.World.row.Goals as goal

pub returns-clause-none : goal.returns-clause-none
returns-clause-none c =
    subst (λ log. MatchOption c.find.result ((v : Version) → Contains (row_at (world_after log.steps) c.args.place.holder c.args.place.home c.args.key.now) v → ⊥)
    (λ row. 0 < length row.now.versions)) c.self.view_is
    (option_weaker c.find.result _ _ _ _
    (none_at _ _ _ _ _ c.self.invariant.after c.args.place.holder c.args.place.home c.args.key.now)
    (λ row found. subst (λ r. 0 < length r.versions) found.2 (row_some _ _ _ _ _ c.self.invariant.after found.0 found.1))
    (subst (λ hs. MatchOption c.find.result (row_in hs c.args.place.holder c.args.place.home c.args.key.now ≡ [])
    (λ row. (h : Holding) × Contains hs h × (h.row ≡ row.now))) c.as_slice.ensures.value c.find.ensures.inside))

pub returns-clause-key : goal.returns-clause-key
returns-clause-key c =
    subst (λ log. MatchOption c.find.result ((v : Version) → Contains (row_at (world_after log.steps) c.args.place.holder c.args.place.home c.args.key.now) v → ⊥)
    (λ row. row.now.key ≡ c.args.key.now)) c.self.view_is
    (option_weaker c.find.result _ _ _ _
    (none_at _ _ _ _ _ c.self.invariant.after c.args.place.holder c.args.place.home c.args.key.now)
    (λ row found. found)
    (subst (λ hs. MatchOption c.find.result (row_in hs c.args.place.holder c.args.place.home c.args.key.now ≡ [])
    (λ row. row.now.key ≡ c.args.key.now)) c.as_slice.ensures.value c.find.ensures.none))

pub returns-clause-row : goal.returns-clause-row
returns-clause-row c =
    subst (λ log. MatchOption c.find.result ((v : Version) → Contains (row_at (world_after log.steps) c.args.place.holder c.args.place.home c.args.key.now) v → ⊥)
    (λ row. IsSameRow row.now.versions (row_at (world_after log.steps) c.args.place.holder c.args.place.home c.args.key.now))) c.self.view_is
    (option_weaker c.find.result _ _ _ _
    (none_at _ _ _ _ _ c.self.invariant.after c.args.place.holder c.args.place.home c.args.key.now)
    (λ row found.
    subst (λ vs. IsSameRow vs (row_at (world_after c.self.inside.steps.items) c.args.place.holder c.args.place.home c.args.key.now)) (sym found)
    (c.self.invariant.after.meets.rows_are c.args.place.holder c.args.place.home c.args.key.now))
    (subst (λ hs. MatchOption c.find.result (row_in hs c.args.place.holder c.args.place.home c.args.key.now ≡ [])
    (λ row. row.now.versions ≡ row_in hs c.args.place.holder c.args.place.home c.args.key.now)) c.as_slice.ensures.value c.find.ensures.some))
