use Rattle.std.proofs.Common.{◌≡◌, List, [], rules, ap, ◌∙◌, subst}
use Rattle.json.specs.Lex.{tokens}
use Rattle.json.specs.Token.{Token}
use Rattle.dy_script.specs.Requests.{request_parts}
use Rattle.dy_script.specs.inside.Fields.{AreTold, members_told}
use Rattle.dy_script.proofs.RequestsRead.{request_read}
use Rattle.dy_script.proofs.requests.request_told.Goals as goal

-- the members are all that the line has
pub returns-clause-ok : goal.returns-clause-ok
returns-clause-ok c =
    let text = c.in-Ok.ensures.cases in
    let told = members_told c.read_fields.new.fields in
    let begun : c.in-Ok-new.reader ≡ tokens c.args.bytes.now = c.in-Ok-new.ensures.ok ∙ ap tokens text.0 in
    let ended : c.read_fields.new.reader ≡ [] = search rules in
    let all = subst (λ (left : List Token). AreTold c.in-Ok-new.reader told left) ended c.in-Some.ensures in
    request_read request_parts c.args.nodes c.args.number c.args.bytes.now told c.request_of.result text.1
    (subst (λ (front : List Token). AreTold front told []) begun all) c.request_of.ensures
