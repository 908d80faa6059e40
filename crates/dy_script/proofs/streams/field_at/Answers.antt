use Rattle.std.proofs.Common.{◌≡◌, ◌∷◌, option_map, rules, sym, ap, ◌∙◌}
use Rattle.json.specs.Token.{Token}
use Rattle.serde_json.specs.View.{number_view}
use Rattle.dy_script.proofs.FieldsRead.{text_field, whole_field}
use Rattle.dy_script.proofs.streams.field_at.Goals as goal

pub returns-in-Some-String : goal.returns-in-Some-String
returns-in-Some-String c =
    let text : c.args.reader.now ≡ Token.string c.in-Some-String.text.now ∷ c.next.new.self = search rules in
    text_field c.in-Some-String.text c.args.reader.now c.next.new.self text

pub returns-in_ok-as_u64-in-Some-Number : goal.returns-in_ok-as_u64-in-Some-Number
returns-in_ok-as_u64-in-Some-Number c =
    let text = c.in-Some-Number.text.now in
    let n = c.in_ok-number_of-in-Some-Number.field-0 in
    let spelled : c.args.reader.now ≡ Token.number text ∷ c.next.new.self = search rules in
    whole_field text (number_view n) c.in_ok-as_u64-in-Some-Number.field-0 c.args.reader.now c.next.new.self spelled
    (sym c.number_of.ensures ∙ ap (option_map number_view) c.in_ok-number_of-in-Some-Number.was)
    (sym c.as_u64.ensures ∙ c.in_ok-as_u64-in-Some-Number.was)
