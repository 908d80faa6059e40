use Rattle.std.proofs.Common.{sym, ap, ◌∙◌, arith}
use Rattle.serde_json.specs.Find.{get_member}
use Rattle.dy_script.specs.inside.Fields.{all_names, name_at, filled}
use Rattle.dy_script.proofs.FieldsRead.{found_told}
use Rattle.dy_script.proofs.fields.Fields.get.Goals as goal

pub returns : goal.returns
returns c =
    let fs = c.args.self.now.places in
    sym (found_told fs c.place.result (omega (arith, c.place.ensures.within))) ∙ ap (λ i. get_member (name_at i) (filled all_names fs)) c.place.ensures.place
