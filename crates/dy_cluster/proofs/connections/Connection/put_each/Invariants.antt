use Rattle.std.proofs.Common.{◌≡◌, drop, map, take}
use Rattle.dy_cluster.specs.Carrying.{AreCarried}
use Rattle.dy_cluster.proofs.connections.Connection.put_each.Given as goal

-- the values so far were put, and the copies of those to come are left
abbrev pub invariant-loop-present : goal.invariant-loop-present
invariant-loop-present g l = record {
  carried : AreCarried {J = g.row.J.Denot} g.J.Naming.ring g.J.Naming.n l.initial.self.w
      (take l.present-index l.values) l.initial.self.session l.self.session
      (g.T.Transport.told l.initial.self.transport) (g.T.Transport.told l.self.transport);
  left : l.copies.items ≡ map (λ x. x.value) (drop l.present-index l.values);
  count_is : l.count ≡ l.present-index;
  w_is : l.self.w ≡ l.initial.self.w;
}
