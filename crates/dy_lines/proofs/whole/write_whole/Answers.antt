-- What the text has is what the line shows, with its end.
use Rattle.std.proofs.Common.{◌≡◌, ◌∙◌, ◌++◌, IfSome, OnOk, ap, subst}
use Rattle.std.specs.Fmt.{WritesInCalls, with_newline}
use Rattle.std.specs.Io.KnownBytes.{Appends}
use Rattle.std.proofs.lemmas.Fmt.{contents_after_writes}
use Rattle.std.proofs.lemmas.Option.{IfSome_then}
use Rattle.std.proofs.lemmas.Result.{on_ok_weaker}
use Rattle.arrayvec.specs.ArrayString.{ArrayString}
use Rattle.dy_lines.proofs.whole.write_whole.Goals as goal

pub returns-in-Ok : goal.returns-in-Ok
returns-in-Ok g c =
    let shown = with_newline (g.L.Display.output c.args.line.now) in
    let before = g.O.Write.contents c.args.out.now in
    let after = g.O.Write.contents c.write_all.new.self in
    let text = c.writeln.new.self in
    let written = subst (λ r. OnOk r (IfSome shown (λ bytes. WritesInCalls {W = ArrayString}
    (λ s more t. t.bytes ≡ s.bytes ++ more) c.new-text.result bytes text)))
    c.in-Ok.is c.writeln.ensures.writes in
    let made : IfSome shown (λ bytes. c.as_bytes.result.now ≡ bytes) = IfSome_then shown written
    (λ bytes took. c.as_bytes.ensures.value ∙ c.deref.ensures.0
    ∙ contents_after_writes {W = ArrayString} _ (λ t. t.bytes) (λ _ _ _ t. t) c.new-text.result bytes
    text took
    ∙ ap (λ t. t ++ bytes) c.new-text.ensures) in
    record {
      bytes = on_ok_weaker c.write_all.result
          (λ (whole : Appends before after c.as_bytes.result.now). IfSome_then shown made
          (λ bytes same. subst (Appends before after) same whole))
          c.write_all.ensures.bytes;
    }
