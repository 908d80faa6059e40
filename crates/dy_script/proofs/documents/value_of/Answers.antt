use Rattle.std.proofs.Common.{refl, sym, ap, ◌∙◌, inr}
use Rattle.dy_script.proofs.TextsRead.{data_read, data_out_of_range, data_unread, data_has_bytes}
use Rattle.dy_script.specs.inside.Documents.{document}
use Rattle.dy_script.proofs.documents.value_of.Goals as goal

-- bytes that are no UTF-8
pub returns-in_default-clause-err : goal.returns-in_default-clause-err
returns-in_default-clause-err c =
    inr (refl, data_unread c.args.bytes.now (λ u. absurd (c.in_default.ensures.cases.0 u)))

pub returns-then-is_in_range-clause-ok : goal.returns-then-is_in_range-clause-ok
returns-then-is_in_range-clause-ok c =
    let text = c.in-Ok.ensures.cases in
    data_read c.args.bytes.now _ text.1 (ap document (sym text.0) ∙ c.in_ok-value.ensures.ok) (sym c.is_in_range.ensures ∙ c.if-is_in_range.true)

pub returns-then-is_in_range-clause-some : goal.returns-then-is_in_range-clause-some
returns-then-is_in_range-clause-some c =
    let text = c.in-Ok.ensures.cases in
    data_has_bytes c.args.bytes.now _ (data_read c.args.bytes.now _ text.1 (ap document (sym text.0) ∙ c.in_ok-value.ensures.ok) (sym c.is_in_range.ensures ∙ c.if-is_in_range.true))

-- a number out of range
pub returns-clause-err : goal.returns-clause-err
returns-clause-err c =
    let text = c.in-Ok.ensures.cases in
    inr (refl, data_out_of_range c.args.bytes.now _ text.1 (ap document (sym text.0) ∙ c.in_ok-value.ensures.ok) (sym c.is_in_range.ensures ∙ c.if-is_in_range.false))
