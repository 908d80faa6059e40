-- Each turn stores the first of those that wait: of n turns, the first n.
use Rattle.std.proofs.Common.{length, slice_get, Some, sym, ap, ◌∙◌, subst, arith, length-drop}
use Rattle.dy_node.proofs.Delivering.{delivered_next, first_behind}
use Rattle.dy_node.specs.Nodes.{IsDelivered}
use Rattle.dy_node.specs.Refusals.{HoldRefused}
use Rattle.dy_node.proofs.nodes.Node.deliver.Goals as goal

-- those that wait are not all stored
pub deliver_first-requires : goal.deliver_first-requires
deliver_first-requires g c = omega (
  arith,
  ap length c.loop-number.invariant.done.waiting,
  length-drop c.loop-number._number
      c.args.self.now.waiting,
  c.loop-number.invariant.all,
  c.loop-number-test.true,
)

-- one more is stored
pub loop-number-preserved : goal.loop-number-preserved
loop-number-preserved g c = record {
  few = omega arith;
  all = c.loop-number.invariant.all;
  up = c.loop-number.invariant.up;
  done = delivered_next c.args.book.now c.loop-number.book c.deliver_first.new.book c.args.self.now
      c.loop-number.self c.deliver_first.new.self c.loop-number._number c.loop-number.invariant.done
      c.in-Ok.ensures.ok;
}

-- it is the first of those that are left
pub returns-in-Err-clause-stopped : goal.returns-in-Err-clause-stopped
returns-in-Err-clause-stopped g c = λ up.
    let b = c.args.book.now in
    let s = c.args.self.now in
    let n = c.loop-number._number in
    let done = c.loop-number.invariant.done in
    let err = c.in-Err.ensures.err in
    let first = c.in-Err.ensures.refused in (
      n,
      first.0,
      sym (first_behind n s.waiting) ∙ ap (λ xs. slice_get xs 0) (sym done.waiting) ∙ first.1,
      subst (λ x. IsDelivered b s n x c.deliver_first.new.self) (sym err.1)
          (subst (λ y. IsDelivered b s n c.loop-number.book y) (sym err.0) done),
      subst (λ x. HoldRefused x first.0.row (Some c.in-Err.fault)) (sym err.1) first.2,
    )
