-- The script of the own members, with the commands that stand behind them.
use Rattle.std.proofs.Common.{ℕ, List, map, subst}
use Rattle.json.specs.Token.{Token}
use Rattle.dy_script.specs.Orders.{command_parts}
use Rattle.dy_script.specs.Reading.{script_parts}
use Rattle.dy_script.specs.inside.Streams.{OpensScript, IsRun}
use Rattle.dy_script.proofs.CommandsRead.{script_streamed}
use Rattle.dy_script.proofs.streams.script_in.Goals as goal

pub returns : goal.returns
returns c =
    let own = c.in_ok-own.own.items in
    let rest = c.own_members.new.reader in
    let run = map command_parts c.in_ok-run.run'.items in
    script_streamed c.args.text.now own rest (script_parts c.in_ok-script.script) run c.utf8.text
    (subst (λ (ts : List Token). OpensScript ts own rest) c.in-Ok.ensures.ok c.in_ok-own.ensures) c.in_ok-script.ensures
    (subst (λ (n : ℕ). IsRun n rest run) c.nodes.ensures c.in_ok-run.ensures)
