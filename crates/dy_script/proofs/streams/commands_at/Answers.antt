-- Each command that is read stands behind those before it.
use Rattle.std.proofs.Common.{◌≡◌, ◌∷◌, [], length, map, Some, arith, ap, ◌∙◌}
use Rattle.std.proofs.lemmas.List.{map-append}
use Rattle.json.specs.Json.{after_end_array}
use Rattle.json.proofs.Grammar.{closed_array}
use Rattle.dy_script.specs.Orders.{command_parts}
use Rattle.dy_script.proofs.CommandsRead.{HasCommands-start, HasCommands-more, HasCommands-end}
use Rattle.dy_script.proofs.streams.commands_at.Goals as goal

pub commands-init : goal.commands-init
commands-init c = record {
  few = omega arith;
  read = HasCommands-start _ _ _ (ap (map command_parts) c.new-found.ensures.items);
}

pub commands-preserved : goal.commands-preserved
commands-preserved c =
    let l = c.commands in
    let same : c.take_end_array.new.self ≡ l.reader = grind arith in
    let pushed = ap (map command_parts) c.in_ok-push.ensures.items ∙ map-append command_parts l.found.items (c.in_ok-command.command ∷ []) in
    record {
      few = omega arith;
      read =
          HasCommands-more c.args.nodes _ l.number _ _ l.reader c.command_at.new.reader (command_parts c.in_ok-command.command) l.invariant.read
          (rw same at c.in_ok-command.ensures) pushed;
    }

pub commands-smaller : goal.commands-smaller
commands-smaller c =
    let l = c.commands in
    let same : c.take_end_array.new.self ≡ l.reader = grind arith in
    let less = c.in_ok-command.ensures.read.shorter in
    omega (arith, ap length same)

pub returns : goal.returns
returns c =
    let l = c.commands in
    let closed : after_end_array l.reader ≡ Some c.take_end_array.new.self = grind arith in
    HasCommands-end c.args.nodes _ l.number _ l.reader c.take_end_array.new.self l.invariant.read l.invariant.few (closed_array l.reader c.take_end_array.new.self closed)
