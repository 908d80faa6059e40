use Rattle.std.proofs.Common.{ap, ◌∙◌}
use Rattle.dy_script.specs.Members.{need, text}
use Rattle.dy_script.proofs.FieldsRead.{text_told}
use Rattle.dy_script.proofs.sources.Order.text.Goals as goal

pub returns : goal.returns
unfolding text
returns c = c.needed_text.ensures ∙ ap (need c.args.self.now.command) (text_told c.get.result _ c.get.ensures)
