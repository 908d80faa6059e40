use Rattle.std.proofs.Common.{sym, ap, ◌∙◌}
use Rattle.std.specs.FinSet as set
use Rattle.dy_dots.specs.Dots.{dot_cmp}
use Rattle.dy_core.proofs.Named.{named_step, other_step}
use Rattle.dy_core.proofs.issuing.past_of_context.Goals as goal
use Rattle.dy_core.proofs.issuing.past_of_context.Goals.{then-is_in_context+in_ok-union+in_ok-insert, else-is_in_context}

pub loop-version-init : goal.loop-version-init
loop-version-init c = λ d. ap (λ s. set.contains s d) c.new-past.ensures ∙ set.contains-empty dot_cmp d

pub loop-version-preserved : goal.loop-version-preserved
loop-version-preserved c = λ d.
    elim c.if-is_in_context.branch [
      | then-is_in_context+in_ok-union+in_ok-insert w ↦
          let joined = w.in_ok-union.ensures.ok ∙ ap (λ s. set.union c.loop-version.past s) w.past.ensures.value in
          ap (λ s. set.contains s d) (w.past-is ∙ w.in_ok-insert.ensures.ok ∙ (λ i. set.insert (joined i) (w.dot.ensures.value i)))
          ∙ named_step c.args.versions.now c.loop-version.version-index c.version-item.result c.loop-version-test.true c.version-item.is
          c.args.key.now c.args.context.now c.loop-version.past c.loop-version.invariant
          (sym c.is_in_context.ensures ∙ w.if-is_in_context.true) d
      | else-is_in_context w ↦
          ap (λ s. set.contains s d) w.past-is
          ∙ other_step c.args.versions.now c.loop-version.version-index c.version-item.result c.loop-version-test.true c.version-item.is
          c.args.key.now c.args.context.now c.loop-version.past c.loop-version.invariant
          (sym c.is_in_context.ensures ∙ w.if-is_in_context.false) d
    ]
