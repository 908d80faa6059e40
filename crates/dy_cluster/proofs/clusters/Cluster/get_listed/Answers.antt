use Rattle.std.proofs.Common.{subst}
use Rattle.dy_preference.specs.Preferences.{Preferred}
use Rattle.dy_cluster.specs.inside.Calls.{GetsBy}
use Rattle.dy_cluster.proofs.clusters.Cluster.get_listed.Goals as goal

-- the list is the key's
pub returns : goal.returns
returns g c =
    let told = g.T.Transport.told in
    let P : Preferred → Type 0 = λ list. GetsBy {J = g.row.J.Denot} list c.args.key.now
    g.J.Naming.r c.args.session.now c.get.new.session (told c.args.transport.now)
    (told c.get.new.transport) c.get.result in
    let gets : P c.args.list.now = record {
      ok = c.get.ensures.ok;
      told = c.get.ensures.told;
      err = c.get.ensures.err;
      room = c.get.ensures.room;
      refused = c.get.ensures.refused;
    } in
    subst P c.requires.list gets
