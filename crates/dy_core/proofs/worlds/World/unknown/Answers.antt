use Rattle.std.proofs.Common.{◌≡◌, true, MatchOption, sym, ◌∙◌, subst}
use Rattle.std.specs.FinSet as set
use Rattle.dy_dots.specs.declared.dots.Dot.{Dot}
use Rattle.dy_core.specs.Worlds.{is_issued}
use Rattle.dy_core.specs.Steps.{IsKnown}
use Rattle.dy_core.specs.Logs.{world_after}
use Rattle.dy_core.specs.Listings.{IsLeastUnknown}
use Rattle.dy_core.proofs.Listed.{issued_same, option_weaker}
use Rattle.dy_core.proofs.worlds.World.unknown.Goals as goal

pub returns : goal.returns
returns c =
    let same = issued_same _ _ c.self.invariant.after.meets.versions_are c.args.key.now in
    subst (λ log. MatchOption c.least.result (IsKnown (world_after log.steps) c.args.key.now c.args.context.now)
    (IsLeastUnknown (world_after log.steps).versions c.args.key.now c.args.context.now))
    c.self.view_is
    (option_weaker c.least.result _ _ _ _
    (λ all d inside. sym (same d) ∙ all d inside)
    (λ d is. record {
      in_context = is.in_context;
      not_issued = sym (same d) ∙ is.not_issued;
      least = λ e inside earlier. sym (same e) ∙ is.least e inside earlier;
    })
    (subst (λ vs. MatchOption c.least.result ((d : Dot) → set.contains c.args.context.now d ≡ true → is_issued vs c.args.key.now d ≡ true)
    (IsLeastUnknown vs c.args.key.now c.args.context.now)) c.as_slice.ensures.value c.least.ensures))
