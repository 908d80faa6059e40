use Rattle.std.proofs.Common.{◌++◌, [], ◌∷◌, sym, ap, ◌∙◌, subst}
use Rattle.dy_siblings.specs.Siblings.{IsSameRow}
use Rattle.dy_core.specs.Worlds.{layout_of}
use Rattle.dy_core.specs.Steps.{IsAllowed, row_answered}
use Rattle.dy_core.specs.Logs.{world_after}
use Rattle.dy_core.specs.inside.Meanings.{IsAfter}
use Rattle.dy_core.proofs.worlds.World.apply.Goals as goal

-- the step is allowed in the world that the lists mean
pub make-requires : goal.make-requires
make-requires c =
    let w = c.self.inside in (
      layout_of w.ring w.n,
      c.self.invariant.after,
      subst (λ log. IsAllowed (layout_of log.ring log.n) (world_after log.steps) c.args.step) (sym c.self.view_is) c.requires.allowed,
    )

-- the step is pushed behind the steps, which stayed
pub invariant_of-self : goal.invariant_of-self
invariant_of-self c =
    let w = c.self.inside in
    let steps_are = c.push_reserved.ensures.items ∙ ap (λ steps. steps ++ c.args.step ∷ []) c.make.ensures.steps_stay in
    let allowed = subst (λ log. IsAllowed (layout_of log.ring log.n) (world_after log.steps) c.args.step) (sym c.self.view_is) c.requires.allowed in
    record {
      some = c.self.invariant.some;
      enough = c.self.invariant.enough;
      after =
          subst (λ steps. IsAfter (layout_of w.ring w.n) steps c.make.new.versions.items c.make.new.held.items c.make.new.acked.items)
          (sym steps_are) (c.in-Ok.ensures.log _ c.self.invariant.after allowed);
    }

pub returns-in-Ok-clause-row : goal.returns-in-Ok-clause-row
returns-in-Ok-clause-row c =
    subst (λ log. IsSameRow c.in-Ok.row.versions (row_answered (world_after log.steps) c.args.step)) c.self.view_is c.in-Ok.ensures.row
