-- what was taken at last stands behind what was taken before
use Rattle.std.proofs.Common.{◌≢◌, ◌++◌, ◌∷◌, [], append_assoc, refl, rules, subst, sym}
use Rattle.std.specs.Io.KnownBytes.{Consumes}
use Rattle.std.proofs.KnownBytes.{Consumes-trans}
use Rattle.std.proofs.lemmas.List.Elements.{All-append}
use Rattle.dy_serve.specs.InputLines.{taken}
use Rattle.dy_serve.proofs.input_lines.Line.read.Goals as goal

pub returns-in-Rest : goal.returns-in-Rest
returns-in-Rest g c =
    let before = c.loop.invariant in
    let piece = c.in_ok-take_piece.ensures in
    let between = g.I.Read.remaining c.loop.input in
    let after = g.I.Read.remaining c.take_piece.new.input in
    let bytes : Consumes between after (piece.0 ++ 10 ∷ []) =
    subst (λ p. Consumes between after (taken p piece.0)) c.in-Rest.is piece.1 in (
      before.0 ++ piece.0,
      before.0 ++ piece.0 ++ 10 ∷ [],
      refl,
      All-append (λ x. x ≢ 10) before.0 piece.0 before.1 piece.2,
      piece.3 before.0 before.2,
      subst (Consumes (g.I.Read.remaining c.args.input.now) after)
          (sym (append_assoc before.0 piece.0 (10 ∷ [])))
          (Consumes-trans _ between after before.0 (piece.0 ++ 10 ∷ []) before.3 bytes),
      λ is. absurd (search rules),
    )

pub loop-preserved : goal.loop-preserved
loop-preserved g c =
    let before = c.loop.invariant in
    let piece = c.in_ok-take_piece.ensures in
    let between = g.I.Read.remaining c.loop.input in
    let after = g.I.Read.remaining c.take_piece.new.input in
    let bytes : Consumes between after piece.0 =
    subst (λ p. Consumes between after (taken p piece.0)) c.in-Part.is piece.1 in (
      before.0 ++ piece.0,
      All-append (λ x. x ≢ 10) before.0 piece.0 before.1 piece.2,
      piece.3 before.0 before.2,
      Consumes-trans _ between after before.0 piece.0 before.3 bytes,
    )
