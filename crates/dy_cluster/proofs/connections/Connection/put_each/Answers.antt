use Rattle.std.proofs.Common.{◌≡◌, ◌+◌, ◌++◌, take, arith, sym, ap, ◌∙◌, subst, [], ◌∷◌}
use Rattle.std.proofs.Common.{Err, Some, inl, length, refl, slice_get}
use Rattle.std.proofs.lemmas.List.{take_more}
use Rattle.std.proofs.lemmas.Grind.{common_steps}
use Rattle.std.proofs.lemmas.Option.{slice_get_read}
use Rattle.dy_cluster.specs.Carrying.{AreCarried, EndsBehindNothing, IsCarried}
use Rattle.dy_cluster.proofs.Carried.{carried_more}
use Rattle.dy_cluster.proofs.connections.Connection.put_each.Goals as goal

-- one value more was put, and its copy is not left
pub loop-present-preserved : goal.loop-present-preserved
loop-present-preserved g c =
    let ring = g.J.Naming.ring in
    let n = g.J.Naming.n in
    let w = c.args.self.now.w in
    let values = c.args.values.now in
    let i = c.loop-present.present-index in
    let item = c.present-item.result in
    let before = c.args.self.now in
    let now = c.loop-present.self in
    let after = c.put_present.new.self in
    let more : take i values ++ item ∷ [] ≡ take (i + 1) values =
    ap (λ x. take i values ++ x ∷ []) c.present-item.is
    ∙ sym (take_more values i item (omega arith)) in
    let one = subst (λ m. IsCarried {J = g.row.J.Denot} ring n m item now.session after.session
    (g.T.Transport.told now.transport) (g.T.Transport.told after.transport))
    c.loop-present.invariant.w_is c.in_default-put_present.ensures.ok in
    record {
      carried = subst (λ xs. AreCarried {J = g.row.J.Denot} ring n w xs before.session
          after.session (g.T.Transport.told before.transport)
          (g.T.Transport.told after.transport)) more
          (carried_more {J = g.row.J.Denot} ring n w (take i values) item before.session
          now.session after.session _ _ _ c.loop-present.invariant.carried one);
      left = grind (arith, common_steps);
      count_is = omega arith;
      w_is = c.put_present.ensures.w ∙ c.loop-present.invariant.w_is;
    }

-- the put of the next value was refused, and told the session nothing
pub returns-in-Err-put_present-clause-err : goal.returns-in-Err-put_present-clause-err
returns-in-Err-put_present-clause-err g c =
    let ring = g.J.Naming.ring in
    let n = g.J.Naming.n in
    let w = c.args.self.now.w in
    let told = g.T.Transport.told in
    let values = c.args.values.now in
    let i = c.loop-present.present-index in
    let item = c.present-item.result in
    let before = c.args.self.now in
    let now = c.loop-present.self in
    let after = c.put_present.new.self in
    let refused = c.in-Err-put_present.refused in
    let err = c.in-Err-put_present.ensures.err in
    let count = c.loop-present.invariant.count_is in
    inl (record {
      between = told now.transport;
      are_carried = subst (λ m. AreCarried {J = g.row.J.Denot} ring n w (take m values)
          before.session after.session (told before.transport) (told now.transport)) (sym count)
          (subst (λ s. AreCarried {J = g.row.J.Denot} ring n w (take i values) before.session s
          (told before.transport) (told now.transport)) (sym err.0)
          c.loop-present.invariant.carried);
      next = item;
      next_is = subst (λ m. slice_get values m ≡ Some item) (sym count)
          (slice_get_read values (length values) i item refl (omega arith) c.present-item.is);
      ended_so = subst (λ s. EndsBehindNothing {J = g.row.J.Denot} ring n w item s s
          (told now.transport) (told after.transport) (Err refused)) (sym err.0)
          (subst (λ m. EndsBehindNothing {J = g.row.J.Denot} ring n m item now.session now.session
          (told now.transport) (told after.transport) (Err refused))
          c.loop-present.invariant.w_is err.1);
    })
