use Rattle.std.proofs.Common.{ℕ, ◌∙◌, ap, subst}
use Rattle.dy_transport.specs.Told.{Told, nothing_told}
use Rattle.dy_coord.specs.PutEnds.{PutEnds}
use Rattle.dy_cluster.specs.Lists.{list_of}
use Rattle.dy_commands.proofs.writes.write_in.Goals as goal

-- the transport told nothing of the call before
pub returns-clause-told : goal.returns-clause-told
returns-clause-told g c =
    let given = c.args.given in
    let list = list_of g.J.Naming.ring g.J.Naming.n given.key in
    let fresh = c.renew.ensures
    ∙ ap (λ (room : ℕ). nothing_told {J = g.row.J.Denot} room) c.requires.room in
    record {
      told = c.put-answer.new.self;
      answer = c.put-answer.result;
      ends = subst (λ (told : Told g.row.J.Denot). PutEnds {J = g.row.J.Denot} list c.args.w
          given.key given.context given.value c.args.session.now c.put-answer.new.session
          told c.put-answer.new.self c.put-answer.result)
          fresh c.put-answer.ensures.ends;
      tells = c.written.ensures;
    }
