use Rattle.std.proofs.Common.{◌∙◌}
use Rattle.dy_script.proofs.FieldsRead.{whole_told}
use Rattle.dy_script.proofs.sources.Order.whole.Goals as goal

pub returns : goal.returns
returns c = c.told_whole.ensures ∙ whole_told c.get.result _ c.get.ensures
