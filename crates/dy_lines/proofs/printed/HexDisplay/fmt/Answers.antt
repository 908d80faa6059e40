use Rattle.std.proofs.Common.{◌≡◌, ◌*◌, ℕ, List, ◌++◌, length, ap, subst, IsUtf8, ◌∙◌, rules, append_assoc, append-nil, sym}
use Rattle.std.proofs.Output.{has_written_append, has_written_of_eq}
use Rattle.std.proofs.lemmas.List.{nil_from_length, take_at}
use Rattle.std.proofs.lemmas.Str.{IsUtf8-from_ascii}
use Rattle.std.specs.Slice.Iter.{chunks_rest}
use Rattle.dy_lines.specs.Texts.{hex_text}
use Rattle.dy_lines.proofs.Digits.{hex_append, hex_ascii, hex_nil, length-hex}
use Rattle.dy_lines.proofs.printed.HexDisplay.fmt.Goals as goal

-- digits are a text
pub unreachable-requires-in_default-from_utf8 : goal.unreachable-requires-in_default-from_utf8
unreachable-requires-in_default-from_utf8 g c =
    let part = c.in-Some.part.now in
    let written : c.encode_to_slice.new.output ≡ hex_text part = c.in-Ok.ensures.written in
    let len : length c.encode_to_slice.new.output ≡ 2 * length part = ap length written ∙ length-hex part in
    c.in_default-from_utf8.ensures.cases.0 (subst IsUtf8
    (sym (take_at c.encode_to_slice.new.output _ (2 * length part) len ∙ written))
    (IsUtf8-from_ascii (hex_text part) (hex_ascii part)))

-- a part more is written
pub loop-part-preserved : goal.loop-part-preserved
loop-part-preserved g c =
    let part = c.in-Some.part.now in
    let steps = c.in-Some.ensures.steps in
    let written : c.encode_to_slice.new.output ≡ hex_text part = c.in-Ok.ensures.written in
    let len : length c.encode_to_slice.new.output ≡ 2 * length part = ap length written ∙ length-hex part in
    let shown : c.in-Ok-from_utf8.text.now ≡ hex_text part = c.in-Ok-from_utf8.ensures.cases.0
    ∙ (take_at c.encode_to_slice.new.output _ (2 * length part) len ∙ written) in (
      search rules,
      tt,
      steps.0 ∙ c.loop-part.invariant.2,
      λ plain.
          let so_far = c.loop-part.invariant.3 plain in (
            so_far.0 ++ c.in-Ok-from_utf8.text.now,
            has_written_append _ _ _ _ _ _ so_far.1 (search rules),
            append_assoc so_far.0 _ _
                ∙ ap (λ (t : List ℕ). so_far.0 ++ t)
                (rw shown (sym (hex_append part (chunks_rest c.next.new.self)) ∙ ap hex_text (sym steps.1.0)))
                ∙ so_far.2,
          ),
    )

-- all parts are written
pub returns-clause-writes : goal.returns-clause-writes
returns-clause-writes g c = λ plain _.
    let so_far = c.loop-part.invariant.3 plain in
    let none = nil_from_length _ c.in-None.ensures.steps.1.0 in
    has_written_of_eq _ _ _ _ _ (rw (none, hex_nil, append-nil) at so_far.2) so_far.1
