use Rattle.dy_cluster.proofs.Carried.{carried_by, refused_by}
use Rattle.dy_cluster.proofs.connections.Connection.put_present.Goals as goal

pub returns-clause-ok : goal.returns-clause-ok
returns-clause-ok g c =
    carried_by {J = g.row.J.Denot} g.J.Naming.ring g.J.Naming.n c.args.self.now.w
    c.args.present.now c.args.none.now c.args.value c.args.self.now.session
    c.put.new.self.session _ _ c.requires.nothing c.requires.value c.put.result
    c.put.ensures.ends c.put.ensures.ok

pub returns-clause-err : goal.returns-clause-err
returns-clause-err g c =
    refused_by {J = g.row.J.Denot} g.J.Naming.ring g.J.Naming.n c.args.self.now.w
    c.args.present.now c.args.none.now c.args.value c.args.self.now.session
    c.put.new.self.session _ _ c.requires.nothing c.requires.value c.put.result
    c.put.ensures.ends c.put.ensures.err
