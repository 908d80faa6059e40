use Rattle.std.proofs.Common.{◌≡◌, false, MatchOption, sym, ◌∙◌, subst}
use Rattle.std.specs.List.{Contains}
use Rattle.dy_core.specs.Worlds.{is_issued}
use Rattle.dy_core.specs.Logs.{world_after}
use Rattle.dy_core.proofs.Listed.{issued_same, option_weaker}
use Rattle.dy_core.proofs.worlds.World.version.Goals as goal

pub returns : goal.returns
returns c =
    subst (λ log. MatchOption c.find.result (is_issued (world_after log.steps).versions c.args.key.now c.args.dot ≡ false)
    (λ v. Contains (world_after log.steps).versions v.now × (v.now.key ≡ c.args.key.now) × (v.now.dot ≡ c.args.dot)))
    c.self.view_is
    (option_weaker c.find.result _ _ _ _
    (λ none. sym (issued_same _ _ c.self.invariant.after.meets.versions_are c.args.key.now c.args.dot) ∙ none)
    (λ v found. ((c.self.invariant.after.meets.versions_are v.now).0 found.0, found.1, found.2))
    (subst (λ vs. MatchOption c.find.result (is_issued vs c.args.key.now c.args.dot ≡ false)
    (λ v. Contains vs v.now × (v.now.key ≡ c.args.key.now) × (v.now.dot ≡ c.args.dot))) c.as_slice.ensures.value c.find.ensures))
