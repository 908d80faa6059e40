use Rattle.json.specs.Value.{value_view}
use Rattle.dy_script.proofs.LookUps.{member_seen}
use Rattle.dy_script.proofs.members.Members.get.Goals as goal

pub returns : goal.returns
returns c = member_seen _ c.args.name.now (value_view c.args.self.now.value.now) c.get.ensures
