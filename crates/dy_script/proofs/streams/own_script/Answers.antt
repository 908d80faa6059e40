use Rattle.std.proofs.Common.{◌≡◌, true, rules}
use Rattle.json.specs.Value.{value_view, members_view}
use Rattle.json.specs.declared.value.Value.TheVariants.{Object}
use Rattle.json.proofs.Trees.{view-Object}
use Rattle.dy_script.specs.Reading.{script_parts}
use Rattle.dy_script.specs.inside.Documents.{members_in_range}
use Rattle.dy_script.proofs.CommandsRead.{own_read}
use Rattle.dy_script.proofs.streams.own_script.Goals as goal

pub returns : goal.returns
returns c =
    let own = c.args.own in
    let ranged : members_in_range (members_view own.items) ≡ true = search rules in
    own_read script_parts own.items (value_view (Object own)) c.script_of.result ranged (view-Object own) c.script_of.ensures
