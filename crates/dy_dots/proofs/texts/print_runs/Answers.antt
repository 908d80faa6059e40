use Rattle.std.proofs.Common.{rules, arith, ◌∙◌, sym, refl}
use Rattle.std.proofs.Output.{has_written_append}
use Rattle.dy_dots.specs.Spelling.{runs_text}
use Rattle.dy_dots.proofs.Printing.{one_more, one_node_more}
use Rattle.dy_dots.proofs.texts.print_runs.Goals as goal

pub loop-run-init : goal.loop-run-init
loop-run-init g c plain =
    let head = c.in_ok-print_head.ensures plain refl in
    (_, has_written_append _ _ _ _ _ _ head (c.in_ok-fmt.ensures.writes head.plain refl), search rules)

pub loop-run-preserved-then-eq : goal.loop-run-preserved-then-eq
loop-run-preserved-then-eq g c plain =
    let before = c.loop-run.invariant plain in
    (_, has_written_append _ _ _ _ _ _ before.1 (c.in_ok-write.ensures.writes before.1.plain refl), one_more before.0 (runs_text c.args.runs.now) c.loop-run.node c.loop-run.run-index c.in-Some.rest.now c.run-item.result (omega arith) (search rules) (sym c.eq.ensures ∙ c.if-eq.true) before.2)

pub loop-run-preserved : goal.loop-run-preserved
loop-run-preserved g c plain =
    let before = c.loop-run.invariant plain in
    (_, has_written_append _ _ _ _ _ _ before.1 (c.in_ok-write-2.ensures.writes before.1.plain refl), one_node_more before.0 (runs_text c.args.runs.now) c.loop-run.node c.loop-run.run-index c.in-Some.rest.now c.run-item.result (omega arith) (search rules) (sym c.eq.ensures ∙ c.if-eq.false) before.2)
