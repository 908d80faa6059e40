-- the session at this place wrote it
use Rattle.dy_commands.specs.Writes.{IsWritten}
use Rattle.dy_commands.proofs.Seating.{told_at, tried_at, untried_at}
use Rattle.dy_commands.proofs.writes.run_write.Goals as goal

pub returns-in-Ok-place-clause-told : goal.returns-in-Ok-place-clause-told
returns-in-Ok-place-clause-told g c =
    let place = c.in-Ok-place.ensures in
    let judged = c.args.judged in
    let Written = IsWritten g.row.J.Denot g.J.Naming.ring g.J.Naming.n judged.w c.in-Ok.given
    judged.word c.write_in.result in
    rw c.in-Ok.is (tried_at _ judged.word c.write_in.result _ c.args.lent.now.sessions.items _ Written
    place.refused (told_at c.in-Ok-place.place _ c.args.lent.now.sessions.items
    c.place_of-place.new.sessions.items c.index_mut-session.result.now c.write_in.new.session Written
    place.place place.there c.index_mut-session.ensures.value place.seated c.write_in.ensures.told))

-- its texts are refused
pub returns-in-Err-clause-told : goal.returns-in-Err-clause-told
returns-in-Err-clause-told g c =
    rw c.in-Err.is (c.place_of-place.ensures.seated, c.refused.ensures)

-- its session is refused
pub returns-in-Err-place-clause-told : goal.returns-in-Err-place-clause-told
returns-in-Err-place-clause-told g c =
    let place = c.in-Err-place.ensures in
    let judged = c.args.judged in
    let outcome = c.refused-in-Err-place.result in
    let Written = IsWritten g.row.J.Denot g.J.Naming.ring g.J.Naming.n judged.w c.in-Ok.given
    judged.word outcome in
    rw c.in-Ok.is (untried_at _ judged.word outcome _ c.args.lent.now.sessions.items
    c.place_of-place.new.sessions.items Written c.in-Err-place.fault place.refused place.err
    place.only c.refused-in-Err-place.ensures)
