use Rattle.std.proofs.Common.{ap, ◌∙◌}
use Rattle.serde_json.specs.Find.{get as member_of}
use Rattle.dy_script.specs.inside.Documents.{view}
use Rattle.dy_script.proofs.FieldsRead.{found_tells, missing_tells}
use Rattle.dy_script.proofs.sources.value_told.Goals as goal

pub returns-in-Some : goal.returns-in-Some
returns-in-Some c =
    found_tells c.field_of.result (view c.in-Some.member.now) _ (c.in-Some.ensures ∙ ap (λ name. member_of name (view c.args.value.now)) c.text.ensures)
    c.field_of.ensures.text c.field_of.ensures.whole

pub returns-in-None : goal.returns-in-None
returns-in-None c = missing_tells _ (c.in-None.ensures ∙ ap (λ name. member_of name (view c.args.value.now)) c.text.ensures)
