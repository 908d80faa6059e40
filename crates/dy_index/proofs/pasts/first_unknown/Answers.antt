use Rattle.std.proofs.Common.{◌≡◌, ◌≤◌, IfSome, ◌∙◌, subst}
use Rattle.dy_dots.specs.declared.dots.Dot.{Dot}
use Rattle.dy_index.proofs.Gathering.{all_issued, first_not_issued}
use Rattle.dy_index.proofs.pasts.first_unknown.Goals as goal

-- the node's counters go past the run
pub returns-then-run-last : goal.returns-then-run-last
returns-then-run-last c = λ steps key is.
    all_issued is.layout steps is.legal key c.args.run.now c.requires.low
    (subst (λ n. c.args.run.now.last ≤ n) (c.last-last.ensures steps key is) c.if-run-last.true)

-- the first counter past the node's, or of the run
pub returns : goal.returns
returns c = λ steps key is.
    first_not_issued is.layout steps is.legal key c.args.run.now c.requires.low
    c.last-last.result (c.last-last.ensures steps key is) c.unwrap-dot.result
    (subst (λ r. IfSome r
    (λ (d : Dot). d ≡ record { node = c.args.run.now.node; counter = c.max-counter.result }))
    c.unwrap-dot.ensures c.new.ensures.value
    ∙ (λ i. record { node = c.args.run.now.node; counter = c.max-counter.ensures i }))
    (subst (λ n. n ≤ c.args.run.now.last) c.max-counter.ensures c.if-counter-run.false)
