-- The steps, and the counts behind them; the copy has the tokens of the ring, and the fetches that
-- were told are those of the gets.
use Rattle.std.proofs.Common.{◌≡◌, ◌∙◌, List, ℕ, ap, subst}
use Rattle.std.proofs.KnownBytes.{Appends-trans}
use Rattle.std.specs.Io.KnownBytes.{Appends}
use Rattle.dy_ring.specs.Rings.{Tokens}
use Rattle.dy_storm.specs.Traces.{all_gets, trace_lines}
use Rattle.dy_lines.proofs.Telling.{told_by}
use Rattle.dy_storm.proofs.writing.write_storm.Goals as goal

pub returns-clause-written : goal.returns-clause-written
returns-clause-written g c =
    let contents = g.O.Write.contents in
    let first = contents c.args.out.now in
    let second = contents c.write_trace.new.out in
    let last = contents c.write_counts.new.out in
    let steps = c.args.plan.steps in
    let ring = c.in_ok-ring.ring in
    let stormed = c.in_ok-done.ensures.stormed in
    let audit = c.in_ok-done.done.closed.audit in
    let is = stormed.closed.1.audit in
    let tokens : c.tokens.result.now ≡ ring.tokens =
    c.tokens.ensures.value ∙ ap (λ (t : Tokens). t.tokens) c.in_ok-copy.ensures.ok in
    let traced : Appends first second
    (trace_lines steps ring.tokens audit (all_gets stormed.tellings)) =
    subst (λ (ts : List (ℕ × ℕ)).
    Appends first second (trace_lines steps ts audit (all_gets stormed.tellings))) tokens
    (c.in_ok-write_trace.ensures.written stormed.tellings
    (told_by ring 3 2 stormed.closed.0.book stormed.closed.0.parts stormed.tellings audit is)) in
    let both = Appends-trans first second last _ _ traced c.in_ok-write_counts.ensures in
    (ring, c.in_ok-ring.ensures.ring, (c.in_ok-done.done, (stormed, both)))
