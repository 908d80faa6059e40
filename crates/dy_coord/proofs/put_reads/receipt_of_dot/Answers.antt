-- The receipt that is taken off the end is the last of the dot, or the last is among those left.
use Rattle.std.proofs.Common.{◌≡◌, true, false, Some, cond, sym, ap, ◌∙◌}
use Rattle.dy_dots.specs.Dots.{same_dot}
use Rattle.dy_coord.specs.inside.PutReads.{last_of}
use Rattle.dy_coord.proofs.Holders.{last_more}
use Rattle.dy_coord.proofs.put_reads.receipt_of_dot.Goals as goal

pub returns-then-is_of : goal.returns-then-is_of
returns-then-is_of g c =
    let dot = c.args.dot in
    let receipt = c.in-Some.receipt in
    let left = c.pop.new.self.items in
    let same : same_dot receipt.dot dot ≡ true = sym c.is_of.ensures ∙ c.if-is_of.true in
    sym (c.loop-receipt.invariant ∙ ap (last_of dot) c.in-Some.ensures.items ∙ last_more dot left receipt
    ∙ ap (λ b. cond b (Some receipt) (last_of dot left)) same)

pub loop-receipt-preserved : goal.loop-receipt-preserved
loop-receipt-preserved g c =
    let dot = c.args.dot in
    let receipt = c.in-Some.receipt in
    let left = c.pop.new.self.items in
    let differs : same_dot receipt.dot dot ≡ false = sym c.is_of.ensures ∙ c.if-is_of.false in
    c.loop-receipt.invariant ∙ ap (last_of dot) c.in-Some.ensures.items ∙ last_more dot left receipt
    ∙ ap (λ b. cond b (Some receipt) (last_of dot left)) differs
