-- The entries answer the greater past at the key, and at every other key what they did.
use Rattle.std.proofs.Common.{unwrap_or, refl, sym, ap, ◌∙◌, IsSome, subst}
use Rattle.std.specs.Option.{option_copied_mut}
use Rattle.std.specs.FinMap as maps
use Rattle.std.specs.FinSet as set
use Rattle.dy_node_store.proofs.Hashed.{found, inserted}
use Rattle.dy_cluster.proofs.pasts.Pasts.add.Goals as goal

pub returns-in_ok-union-in-Some-clause-ok : goal.returns-in_ok-union-in-Some-clause-ok
returns-in_ok-union-in-Some-clause-ok c =
    let there = found _ _ _ _ _ c.self.view_is refl c.get_mut.ensures.value ∙ ap option_copied_mut c.in-Some.is in
    let some = subst IsSome (sym (ap option_copied_mut c.in-Some.is) ∙ c.get_mut.ensures.value) refl in
    let union = c.in_ok-union-in-Some.ensures.ok ∙ ap (λ o. set.union (unwrap_or o set.empty) c.args.past.now) (sym there) in
    inserted _ _ _ _ ((c.get_mut.follows.holds c.union.new.self).3 some).0
    ∙ (λ i. maps.insert (c.self.view_is i) c.args.key.now (union i))

pub returns-in_ok-insert-in-None-clause-ok : goal.returns-in_ok-insert-in-None-clause-ok
returns-in_ok-insert-in-None-clause-ok c =
    let there = found _ _ _ _ _ c.self.view_is refl c.get_mut.ensures.value ∙ ap option_copied_mut c.in-None.is in
    let union = c.in_ok-union-in-None.ensures.ok ∙ ap (λ s. set.union s c.args.past.now) c.new-known.ensures
    ∙ ap (λ o. set.union (unwrap_or o set.empty) c.args.past.now) (sym there) in
    inserted _ _ _ _ c.in_ok-insert-in-None.ensures.updates.0
    ∙ ap (λ m. maps.insert (maps.from_entries m.entries) c.in_ok-key-in-None.key c.union-in-None.new.self) c.get_mut.follows.holds-at-none
    ∙ (λ i. maps.insert (c.self.view_is i) (c.in_ok-key-in-None.ensures.value i) (union i))
