use Rattle.std.proofs.Common.{◌≡◌, ◌+◌, ◌++◌, ◌∷◌, [], Ok, length, length-append, map, rules, arith, sym, ap, ◌∙◌, subst, append_assoc}
use Rattle.std.proofs.lemmas.List.{map-append}
use Rattle.dy_script.specs.inside.Documents.{view}
use Rattle.dy_script.specs.Orders.{command_of, command_parts}
use Rattle.dy_script.specs.Reading.{command_at}
use Rattle.dy_script.proofs.ListsRead.{ReadsOn, ReadsOn-more}
use Rattle.dy_script.proofs.reading.commands_in.Goals as goal

pub loop-value-preserved : goal.loop-value-preserved
loop-value-preserved c =
    let inv = c.loop-value.invariant in
    let before = c.loop-value.yielded in
    let v = c.in-Some.value in
    let left = c.next.new.self.rest.items in
    let rest_is = c.in-Some.ensures.steps.0 in
    let longer = length-append before (v ∷ []) in
    let found = c.loop-value.found.items in
    let x = c.in_ok-command.command in
    let pushed = ap (map command_parts) c.in_ok-push.ensures.items ∙ map-append command_parts found (x ∷ []) in
    let says : command_of c.args.nodes (c.loop-value.number + 1) (view v) ≡ Ok (command_parts x) = search rules in
    let read : command_at c.args.nodes (length before) (view v) ≡ Ok (command_parts x) =
    ap (λ n. command_of c.args.nodes (n + 1) (view v)) (sym inv.counted) ∙ says in
    let F = command_at c.args.nodes in
    let vs = c.args.list.items in
    record {
      counted = omega (arith, inv.counted, longer);
      whole = append_assoc before (v ∷ []) left ∙ (ap (λ xs. before ++ xs) (sym rest_is) ∙ inv.whole);
      read_so_far =
          subst (λ n. ReadsOn F vs left n (map command_parts c.push.new.self.items)) (sym longer)
          (subst (ReadsOn F vs left (length before + 1)) (sym pushed)
          (ReadsOn-more F vs c.loop-value.value-iterator.rest.items left (length before) (map command_parts found) v (command_parts x) rest_is inv.read_so_far read));
    }
