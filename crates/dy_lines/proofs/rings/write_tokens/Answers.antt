use Rattle.std.proofs.Common.{sym, subst}
use Rattle.std.proofs.KnownBytes.{Appends-trans}
use Rattle.std.specs.Io.KnownBytes.{Appends}
use Rattle.dy_lines.proofs.TokenLines.{token_lines-next}
use Rattle.dy_lines.proofs.rings.write_tokens.Goals as goal

-- this turn writes the next token's line
pub loop-position-preserved : goal.loop-position-preserved
loop-position-preserved g c =
    let token = c.loop-position-item.result in
    let within = c.loop-position-test.true in
    let next = token_lines-next c.args.tokens.now _ token within c.loop-position-item.is in
    subst (Appends _ _) (sym next)
    (Appends-trans _ _ _ _ _ c.loop-position.invariant c.in_ok-writeln.ensures.bytes)
