use Rattle.std.proofs.Common.{map, sym, ap, ◌∙◌, subst}
use Rattle.dy_hint_store.specs.Hints.{shown}
use Rattle.dy_core.specs.Worlds.{layout_of}
use Rattle.dy_node.specs.Nodes.{AreForHomes}
use Rattle.dy_node.proofs.HintLemmas.{hints_for_homes}
use Rattle.dy_node.proofs.nodes.Node.offer.Goals as goal

-- what is copied is what is kept, and that the world holds
pub returns-in-Ok-copied-clause-for_homes : goal.returns-in-Ok-copied-clause-for_homes
returns-in-Ok-copied-clause-for_homes g c =
    let ring = g.J.Naming.ring in
    let n = g.J.Naming.n in
    let items_are = c.in-Ok-copied.ensures.ok ∙ ap (map shown) c.as_slice.ensures.value in
    subst (AreForHomes ring n) (sym items_are)
    (hints_for_homes (layout_of ring n) c.args.book.now c.self.inside.share c.self.inside.stores
    (record { belongs = c.agree.ensures.belongs; legal = c.agree.ensures.legal })
    c.self.invariant.0 (map shown c.in-Ok.hints.items) c.in-Ok.ensures.kept)
