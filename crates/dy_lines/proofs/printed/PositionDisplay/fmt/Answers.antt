use Rattle.std.proofs.Common.{List, ℕ, subst}
use Rattle.std.specs.Fmt.{HasWritten, IsPlainFormatter}
use Rattle.std.specs.Result.{IsOk}
use Rattle.dy_lines.specs.Texts.{hex_text}
use Rattle.dy_lines.proofs.printed.PositionDisplay.fmt.Goals as goal

-- the digits written are those of the position's bytes
pub returns-clause-writes : goal.returns-clause-writes
returns-clause-writes g c =
    let Writes : List ℕ → Type 0 = λ bytes. IsPlainFormatter c.args.f.now → IsOk c.write.result
    → HasWritten g.W.Write.write_str_gives c.args.f.now (hex_text bytes) c.write.new.self in
    subst Writes c.to_be_bytes-bytes.ensures c.write.ensures.writes
