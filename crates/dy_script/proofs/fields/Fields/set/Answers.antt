use Rattle.std.proofs.Common.{sym, ap, ◌∙◌, arith}
use Rattle.serde_json.specs.Data.{put}
use Rattle.dy_script.specs.inside.Fields.{all_names, name_at, field_data, filled}
use Rattle.dy_script.proofs.FieldsRead.{put_told}
use Rattle.dy_script.proofs.fields.Fields.set.Goals as goal

pub returns : goal.returns
returns c =
    let fs = c.args.self.now.places in
    sym (put_told fs c.place.result c.args.field (omega (arith, c.place.ensures.within)) c.args.self.now.sized)
    ∙ ap (λ i. put (name_at i) (field_data c.args.field) (filled all_names fs)) c.place.ensures.place
