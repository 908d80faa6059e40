use Rattle.std.proofs.Common.{◌∙◌}
use Rattle.dy_script.specs.Members.{optional_text}
use Rattle.dy_script.proofs.FieldsRead.{optional_text_told}
use Rattle.dy_script.proofs.sources.Order.optional_text.Goals as goal

pub returns : goal.returns
unfolding optional_text
returns c = c.told_text.ensures ∙ optional_text_told c.args.self.now.command c.get.result _ c.get.ensures
