-- What was put together, in place or in memory, is the text.
use Rattle.std.proofs.Common.{◌≡◌, ◌∙◌, ◌++◌, OnOk, ap, subst}
use Rattle.std.specs.Fmt.{WritesInCalls}
use Rattle.std.proofs.lemmas.Fmt.{contents_after_writes}
use Rattle.arrayvec.specs.ArrayString.{ArrayString}
use Rattle.dy_dots.specs.Spelling.{runs_text}
use Rattle.dy_dots.proofs.Readings.{decided}
use Rattle.dy_dots.proofs.texts.is_text_of.Goals as goal

pub returns-in-Ok : goal.returns-in-Ok
returns-in-Ok c =
    let shown = runs_text c.args.runs.now in
    let written = subst (λ r. OnOk r (WritesInCalls {W = ArrayString}
    (λ s more t. t.bytes ≡ s.bytes ++ more) c.new-short.result shown c.write.new.self))
    c.in-Ok.is c.write.ensures.writes in
    let made : c.as_str.result.now ≡ shown = c.as_str.ensures.value
    ∙ contents_after_writes {W = ArrayString} _ (λ t. t.bytes) (λ _ _ _ t. t) c.new-short.result shown
    c.write.new.self written
    ∙ ap (λ t. t ++ shown) c.new-short.ensures in
    decided shown c.as_str.result.now c.args.text.now c.eq.result made c.eq.ensures

pub returns-in_ok-long-in-Err : goal.returns-in_ok-long-in-Err
returns-in_ok-long-in-Err c =
    decided (runs_text c.args.runs.now) c.as_str-in-Err.result.now c.args.text.now c.eq-in-Err.result
    (c.as_str-in-Err.ensures.value ∙ c.in_ok-long-in-Err.ensures) c.eq-in-Err.ensures
