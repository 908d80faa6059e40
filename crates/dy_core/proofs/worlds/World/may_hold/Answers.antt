use Rattle.std.proofs.Common.{◌≡◌, true, take, sym, ap, ◌∙◌, subst}
use Rattle.std.specs.List.{All, Contains}
use Rattle.dy_preference.specs.Preferences.{homes_of, may_hold}
use Rattle.dy_core.specs.Worlds.{AreMadeOf}
use Rattle.dy_core.specs.Logs.{world_after}
use Rattle.dy_core.proofs.Listed.{made_is}
use Rattle.dy_core.proofs.worlds.World.may_hold.Goals as goal

pub returns : goal.returns
returns c =
    let w = c.self.inside in
    let key = c.args.row.now.key in
    let vs = c.args.row.now.versions in
    let both = made_is _ _ _ _ _ c.self.invariant.after key vs c.versions.ensures.valid.of_key in
    let homes : take c.preference-list.result.n c.preference-list.result.nodes ≡ homes_of c.args.self.now.ring c.args.self.now.n key =
    (λ i. take (c.preference-list.ensures.homes i) (c.preference-list.ensures.nodes i))
    ∙ ap (λ k. homes_of w.ring w.n k) c.key.ensures
    ∙ ap (λ log. homes_of log.ring log.n key) c.self.view_is in
    let placed : may_hold (homes_of c.args.self.now.ring c.args.self.now.n key) c.args.holder c.args.home ≡ true =
    ap (λ hs. may_hold hs c.args.holder c.args.home) (sym homes) ∙ sym c.may_hold.ensures ∙ c.if-not-may_hold.false in (
      (λ e. (
        placed,
        subst (λ log. AreMadeOf (world_after log.steps) key vs) c.self.view_is
            (both.0
            (subst (λ us. All (λ v. Contains us v) vs) c.as_slice.ensures.value
            (subst (All (λ v. Contains c.as_slice.result.now v)) c.versions.ensures.value (c.are_among.ensures.0 e)))),
      )),
      (λ h.
          c.are_among.ensures.1
          (subst (All (λ v. Contains c.as_slice.result.now v)) (sym c.versions.ensures.value)
          (subst (λ us. All (λ v. Contains us v) vs) (sym c.as_slice.ensures.value)
          (both.1 (subst (λ log. AreMadeOf (world_after log.steps) key vs) (sym c.self.view_is) h.1))))),
    )
