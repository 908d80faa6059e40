-- The lists of a world, as steps change them.
use Rattle.std.proofs.Common.{List, [], ◌∷◌, ◌++◌, sym, subst, arith}
use Rattle.std.specs.List.Sorted.{IsStrictlySortedBy}
use Rattle.dy_core.specs.Worlds.{Layout, empty_world}
use Rattle.dy_core.specs.Steps.{IsAllowed, world_after_step}
use Rattle.dy_core.specs.Logs.{world_after}
use Rattle.dy_core.specs.inside.Meanings.{Meets, IsAfter}
use Rattle.dy_siblings.specs.declared.versions.Version.{Version}
use Rattle.dy_core.specs.declared.acks.Acked.{Acked}
use Rattle.dy_core.specs.declared.holdings.Holding.{Holding}
use Rattle.dy_core.specs.declared.steps.Step.{Step}
use Rattle.dy_core.proofs.OverLogs.{world_from-append, legal_join}

-- empty lists are the empty world's
pub empty_is_after : (layout : Layout) → IsAfter layout [] [] [] []
unfolding IsStrictlySortedBy
empty_is_after layout =
    record {
      is_legal = tt;
      meets = record {
        versions_are = λ v. (λ h. h, λ h. h);
        rows_are = λ p o k v. (λ h. h, λ h. h);
        none_empty = λ k d lt. absurd (omega (arith, lt));
        held_in_order = tt;
        acks_are = λ a. (λ h. h, λ h. h);
        acks_in_order = tt;
      };
    }

-- lists that are right after a step are right after the log with it
pub after_push : (layout : Layout) (steps : List Step) (s : Step) (versions old_versions : List Version) (held old_held : List Holding)
    (acked old_acked : List Acked) → IsAfter layout steps old_versions old_held old_acked → IsAllowed layout (world_after steps) s →
    Meets (world_after_step (world_after steps) s) versions held acked → IsAfter layout (steps ++ s ∷ []) versions held acked
after_push layout steps s versions old_versions held old_held acked old_acked old allowed m =
    record {
      is_legal = legal_join layout empty_world steps (s ∷ []) old.is_legal (allowed, tt);
      meets = subst (λ w. Meets w versions held acked) (sym (world_from-append empty_world steps (s ∷ []))) m;
    }
