-- one more is copied behind the others
use Rattle.std.proofs.Common.{List, subst}
use Rattle.std.proofs.lemmas.List.{take_all}
use Rattle.dy_shares.specs.declared.kept_steps.KeptStep.{KeptStep}
use Rattle.dy_cluster.specs.inside.Copies.{AreCopies}
use Rattle.dy_cluster.proofs.Marking.{copies_next}
use Rattle.dy_cluster.proofs.step_copies.copies_of.Goals as goal

pub loop-step-preserved : goal.loop-step-preserved
loop-step-preserved c =
    copies_next c.args.steps.now c.loop-step.copies.items c.push.new.self.items c.step-item.result
    c.in_ok-copy_of.field-0 c.loop-step.step-index c.loop-step-test.true c.step-item.is
    c.loop-step.invariant c.in_ok-copy_of.ensures.ok c.in_ok-push.ensures.items

pub returns : goal.returns
returns c = record {
  ok = subst (λ (l : List KeptStep). AreCopies l c.loop-step.copies.items)
      (take_all c.loop-step.step-index c.args.steps.now c.loop-step-test.false)
      c.loop-step.invariant;
  memory = tt;
}
