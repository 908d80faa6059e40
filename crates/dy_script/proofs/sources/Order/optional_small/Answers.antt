use Rattle.std.proofs.Common.{◌∙◌}
use Rattle.dy_script.specs.Members.{optional_small}
use Rattle.dy_script.proofs.FieldsRead.{optional_small_told}
use Rattle.dy_script.proofs.sources.Order.optional_small.Goals as goal

pub returns : goal.returns
unfolding optional_small
returns c = c.told_small.ensures ∙ optional_small_told c.args.self.now.command c.get.result _ c.get.ensures
