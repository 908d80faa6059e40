use Rattle.std.proofs.Common.{sym, subst}
use Rattle.serde_json.specs.Find.{get as member_of}
use Rattle.dy_script.specs.declared.sources.Source.{Source}
use Rattle.dy_script.specs.inside.Fields.{Tells, name_text, source_data}
use Rattle.dy_script.proofs.FieldsRead.{data_tells}
use Rattle.dy_script.proofs.sources.Order.get.Goals as goal

-- what was read stands for its data
pub returns-in-Told : goal.returns-in-Told
returns-in-Told c =
    let told = data_tells c.get.result _ c.get.ensures in
    subst (λ (s : Source). Tells c.get.result (member_of (name_text c.args.name) (source_data s))) (sym c.in-Told.is) told
