use Rattle.std.proofs.Common.{subst}
use Rattle.dy_preference.specs.Preferences.{Preferred}
use Rattle.dy_cluster.specs.inside.Calls.{PutsBy}
use Rattle.dy_cluster.proofs.clusters.Cluster.put_listed.Goals as goal

-- the list is the key's
pub returns : goal.returns
returns g c =
    let told = g.T.Transport.told in
    let call = c.args.call in
    let P : Preferred → Type 0 = λ list. PutsBy {J = g.row.J.Denot} list call.w call.key.now
    call.context.now call.value c.args.session.now c.put.new.session
    (told c.args.transport.now) (told c.put.new.transport) c.put.result in
    let puts : P c.args.list.now = record {
      ends = c.put.ensures.ends;
      ok = c.put.ensures.ok;
      err = c.put.ensures.err;
      room = c.put.ensures.room;
    } in
    subst P c.requires.list puts
