use Rattle.std.proofs.Common.{unwrap_or, refl, sym, ap, ◌∙◌}
use Rattle.std.specs.Option.{option_copied}
use Rattle.std.specs.FinSet as set
use Rattle.dy_dots.specs.Dots.{dot_cmp}
use Rattle.dy_node_store.proofs.Hashed.{found}
use Rattle.dy_cluster.proofs.pasts.Pasts.has.Goals as goal

pub returns-in-Some : goal.returns-in-Some
returns-in-Some c =
    let there = found _ _ _ _ _ c.self.view_is refl c.get.ensures.value ∙ ap option_copied c.in-Some.is in
    c.contains.ensures ∙ ap (λ o. set.contains (unwrap_or o set.empty) c.args.dot) (sym there)

pub returns-in-None : goal.returns-in-None
returns-in-None c =
    let there = found _ _ _ _ _ c.self.view_is refl c.get.ensures.value ∙ ap option_copied c.in-None.is in
    sym (set.contains-empty dot_cmp c.args.dot) ∙ ap (λ o. set.contains (unwrap_or o set.empty) c.args.dot) (sym there)
