-- The flag stands at this word, or at none.
use Rattle.std.proofs.Common.{◌≢◌, ◌<◌, ◌∙◌, [], ap, get_or, length, map, refl, sym}
use Rattle.std.proofs.Common.{arith, codes}
use Rattle.std.proofs.lemmas.Bool.{true≢false}
use Rattle.std.proofs.lemmas.List.{get_or-map, length-map}
use Rattle.std.specs.Prelude.{string_bytes}
use Rattle.dy_jobs.proofs.Flags.{flag_here, no_flag, no_flag_behind, passed_next}
use Rattle.dy_jobs.proofs.numbers.has_flag.Goals as goal

-- it is this word
pub returns-then-is_same : goal.returns-then-is_same
returns-then-is_same c =
    let words = c.args.words.now in
    let i = c.loop-word.word-index in
    let word = c.word-item.result in
    let at = get_or-map string_bytes words i word [] c.loop-word-test.true
    ∙ ap string_bytes (sym c.word-item.is) in
    let here = at ∙ sym c.as_str.ensures.value ∙ c.is_same.ensures.0 c.if-is_same.true in
    let within : i < length (map string_bytes words) =
    omega (arith, c.loop-word-test.true, length-map words string_bytes) in (
      (λ _. flag_here _ c.args.flag.now i within c.loop-word.invariant here),
      (λ _. refl),
    )

-- this word is two dashes
pub returns-then-is_dashes : goal.returns-then-is_dashes
returns-then-is_dashes c =
    let words = c.args.words.now in
    let i = c.loop-word.word-index in
    let word = c.word-item.result in
    let at = get_or-map string_bytes words i word [] c.loop-word-test.true
    ∙ ap string_bytes (sym c.word-item.is) in
    let other : get_or (map string_bytes words) i [] ≢ c.args.flag.now = λ e.
    true≢false (sym (c.is_same.ensures.1 (c.as_str.ensures.value ∙ sym at ∙ e))
    ∙ c.if-is_same.false) in
    let dashes = at ∙ sym c.as_str-in-loop-word.ensures.value ∙ c.is_dashes.ensures.0 c.if-is_dashes.true in (
      (λ e. absurd (true≢false (sym e))),
      (λ has. absurd (no_flag_behind _ _ i c.loop-word.invariant other dashes has)),
    )

-- no word is the flag, or two dashes
pub returns : goal.returns
returns c = (
  (λ e. absurd (true≢false (sym e))),
  (λ has. absurd (no_flag _ _ (λ k below. c.loop-word.invariant k (omega (
    arith,
    below,
    length-map c.args.words.now string_bytes,
  ))) has)),
)

-- this word is neither
pub loop-word-preserved : goal.loop-word-preserved
loop-word-preserved c =
    let words = c.args.words.now in
    let i = c.loop-word.word-index in
    let word = c.word-item.result in
    let at = get_or-map string_bytes words i word [] c.loop-word-test.true
    ∙ ap string_bytes (sym c.word-item.is) in
    let other : get_or (map string_bytes words) i [] ≢ c.args.flag.now = λ e.
    true≢false (sym (c.is_same.ensures.1 (c.as_str.ensures.value ∙ sym at ∙ e))
    ∙ c.if-is_same.false) in
    let dashes : get_or (map string_bytes words) i [] ≢ codes "--" = λ e.
    true≢false (sym (c.is_dashes.ensures.1 (c.as_str-in-loop-word.ensures.value ∙ sym at ∙ e))
    ∙ c.if-is_dashes.false) in
    passed_next _ _ i c.loop-word.invariant other dashes
