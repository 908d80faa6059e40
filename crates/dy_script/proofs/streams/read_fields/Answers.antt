-- Each member that is read stands behind those before it, and the end of the object behind them all.
use Rattle.std.proofs.Common.{◌≡◌, ◌∷◌, rules, sym, ap, ◌∙◌}
use Rattle.json.specs.Token.{Token}
use Rattle.serde_json.specs.Data.{put}
use Rattle.dy_script.specs.inside.Fields.{field_data, members_told}
use Rattle.dy_script.proofs.FieldsRead.{HasFields-start, HasFields-more, HasFields-end}
use Rattle.dy_script.proofs.streams.read_fields.Goals as goal

pub members-init : goal.members-init
members-init c = HasFields-start c.begins_object.new.reader (members_told c.clear.new.self) c.clear.ensures

pub members-preserved : goal.members-preserved
members-preserved c =
    let found = members_told c.members.fields in
    let text = c.in-Some-Key.text.now in
    let field = c.in_ok-field-in-Some-Key.field in
    let key : c.members.reader ≡ Token.key text ∷ c.next.new.self = search rules in
    HasFields-more c.begins_object.new.reader found (members_told c.set.new.self) text field c.members.reader c.next.new.self c.field_at.new.reader c.members.invariant key
    c.in_ok-field-in-Some-Key.ensures (c.set.ensures ∙ ap (λ name. put name (field_data field) found) (sym c.in_ok-name-in-Some-Key.ensures))

pub returns-in-Some-EndObject : goal.returns-in-Some-EndObject
returns-in-Some-EndObject c =
    let closed : c.members.reader ≡ Token.end_object ∷ c.next.new.self = search rules in
    HasFields-end c.args.reader.now c.begins_object.new.reader (members_told c.members.fields) c.members.reader c.next.new.self
    (c.begins_object.ensures c.if-not-begins_object.false) c.members.invariant closed
