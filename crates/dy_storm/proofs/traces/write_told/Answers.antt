use Rattle.std.proofs.Common.{ℕ, List, subst, sym}
use Rattle.std.proofs.Math.ListN.{drop_of_length-le}
use Rattle.dy_shares.specs.Shares.{SessionPart}
use Rattle.dy_lines.specs.Tellings.{AreFetchesOf, session_lines}
use Rattle.dy_lines.proofs.Telling.{sessions_all, sessions_next, sessions_none}
use Rattle.dy_storm.proofs.traces.write_told.Goals as goal

pub loop-session-init : goal.loop-session-init
loop-session-init g c = λ tellings are.
    sessions_none session_lines 2 c.args.told.now tellings (g.O.Write.contents c.args.out.now) are

-- this turn writes the next session's lines
pub loop-session-preserved : goal.loop-session-preserved
loop-session-preserved g c =
    let contents = g.O.Write.contents in
    let loop = c.loop-session in
    let numbers = c.index-told-session.result in
    λ tellings are.
    sessions_next session_lines 2 loop.session c.args.told.now numbers tellings
    (contents c.args.out.now) (contents loop.out) (contents c.write_gets.new.out)
    c.loop-session-test.true c.index-told-session.is (loop.invariant tellings are)
    (λ (s : SessionPart) fetches. c.in_ok-write_gets.ensures s.gets
    (subst (λ (l : List ℕ). AreFetchesOf 2 l s.gets) (sym c.as_slice.ensures.value) fetches))

-- all are written
pub returns : goal.returns
returns g c =
    let contents = g.O.Write.contents in
    let loop = c.loop-session in
    λ tellings are.
    sessions_all session_lines 2 loop.session c.args.told.now tellings
    (contents c.args.out.now) (contents loop.out)
    (drop_of_length-le c.args.told.now c.loop-session-test.false) (loop.invariant tellings are)
