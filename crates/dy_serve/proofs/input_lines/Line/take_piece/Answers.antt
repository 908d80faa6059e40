-- what `fill_buf` showed of the line is kept, and consumed with its line feed
use Rattle.std.proofs.Common.{◌+◌, ◌≤◌, [], length, refl, rules, subst, take, take_all, arith}
use Rattle.std.specs.Io.KnownBytes.{Consumes}
use Rattle.std.specs.Io.BufRead.{FillKeeps}
use Rattle.std.proofs.KnownBytes.{Consumes-kept, Consumes-nil}
use Rattle.std.proofs.BufReadLemmas.{Consumes_shown}
use Rattle.dy_serve.proofs.Lines.{all_of_nothing, kept_with_nothing, none_before, none_ready}
use Rattle.dy_serve.proofs.Lines.{through_feed}
use Rattle.dy_serve.proofs.input_lines.Line.take_piece.Goals as goal

pub returns-then-is_empty : goal.returns-then-is_empty
returns-then-is_empty g c = (
  [],
  Consumes-kept _ _ _ [] (Consumes-nil _) c.fill_buf.follows.holds-at-none.0,
  λ k d below. absurd (omega arith),
  λ whole kept. kept_with_nothing _ _ whole kept,
  λ _. (refl, all_of_nothing _ c.in-Ok.ready.now c.in-Ok.ensures.end (search rules)),
)

pub returns-in-Some : goal.returns-in-Some
returns-in-Some g c =
    let ready = c.in-Ok.ready.now in
    let at = c.in-Some.at in
    let first = c.in-Some.ensures in
    let within : at ≤ length ready = omega (arith, first.0.high) in
    let rested = c.fill_buf.follows.lender-at-none in
    let filled = subst (FillKeeps _ (g.I.Read.remaining rested) (g.I.BufRead.consumable_len rested))
    c.in-Ok.is c.fill_buf.follows.holds-at-none in
    let moved = Consumes_shown _ _ _ _ ready (at + 1) (omega (arith, first.0.high))
    c.in-Ok.ensures.front c.in-Ok.ensures.end filled.0 filled.1 c.consume.ensures.bytes in (
      take at ready,
      subst (Consumes _ _) (through_feed ready at first.0.high first.1) moved.0,
      none_before ready at within first.0.before,
      c.keep.ensures,
      λ same. absurd (search rules),
    )

pub returns-in-None : goal.returns-in-None
returns-in-None g c =
    let ready = c.in-Ok.ready.now in
    let rested = c.fill_buf.follows.lender-at-none in
    let filled = subst (FillKeeps _ (g.I.Read.remaining rested) (g.I.BufRead.consumable_len rested))
    c.in-Ok.is c.fill_buf.follows.holds-at-none in
    let moved = Consumes_shown _ _ _ _ ready (length ready) (omega arith)
    c.in-Ok.ensures.front c.in-Ok.ensures.end filled.0 filled.1 c.consume-in-None.ensures.bytes in (
      ready,
      subst (Consumes _ _) (take_all (length ready) ready (omega arith)) moved.0,
      none_ready ready c.in-None.ensures,
      c.keep-in-None.ensures,
      λ same. absurd (search rules),
    )
