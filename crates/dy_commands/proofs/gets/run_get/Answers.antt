-- the session at this place read the key
use Rattle.std.proofs.Common.{List, ℕ, subst}
use Rattle.std.specs.Prelude.{Ok}
use Rattle.dy_lines.specs.declared.outcomes.Word.TheVariants as word
use Rattle.dy_commands.specs.Writes.{IsRead}
use Rattle.dy_commands.proofs.Seating.{told_at, tried_at}
use Rattle.dy_commands.proofs.gets.run_get.Goals as goal

pub returns-in-Ok-place-clause-told : goal.returns-in-Ok-place-clause-told
returns-in-Ok-place-clause-told g c =
    let place = c.in-Ok-place.ensures in
    let judged = c.in-Ok.ensures in
    let naming = g.J.Naming in
    let old = c.index_mut-session.result.now in
    let new = c.get_in.new.session in
    let Reads : List ℕ → Type 0 = λ k. IsRead g.row.J.Denot naming.ring naming.n naming.r k
    c.get_in.result old new in
    let Read = IsRead g.row.J.Denot naming.ring naming.n naming.r c.args.key.now
    c.get_in.result in (
      Ok c.in-Ok.key,
      judged,
      tried_at _ word.Get c.get_in.result _ c.args.lent.now.sessions.items _ Read place.refused
          (told_at c.in-Ok-place.place _ c.args.lent.now.sessions.items
          c.place_of-place.new.sessions.items old new Read place.place place.there
          c.index_mut-session.ensures.value place.seated (subst Reads judged.ok.0 c.get_in.ensures.told)),
    )
