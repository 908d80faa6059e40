-- By whose row it is.
use Rattle.std.proofs.Common.{sym, ap, ◌∙◌, [], ◌∷◌}
use Rattle.std.specs.FinMap as maps
use Rattle.dy_node_store.specs.Rows.{without_dots}
use Rattle.dy_hint_store.specs.Hints.{versions_for}
use Rattle.dy_node.proofs.RoomLemmas.{apart_from, own_hints_stay}
use Rattle.dy_node.proofs.stores.Stores.drop_dot.Goals as goal

-- the row is for another home
pub invariant_of-self-else-eq : goal.invariant_of-self-else-eq
invariant_of-self-else-eq c = λ key.
    ap (λ m. maps.get m (c.self.inside.node, key)) c.remove_dots-else-eq.ensures
    ∙ own_hints_stay c.self.inside.hints c.self.inside.node c.args.home c.args.key.now
    (without_dots (versions_for c.self.inside.hints c.args.home c.args.key.now)
    (c.args.dot ∷ []))
    (apart_from _ _ (sym c.eq.ensures ∙ c.if-eq.false)) key (c.self.invariant key)
