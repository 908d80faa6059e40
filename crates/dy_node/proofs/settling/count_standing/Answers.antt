use Rattle.std.proofs.Common.{◌+◌, cond, ◌++◌, ◌∷◌, [], sym, ap, ◌∙◌, subst, take, arith}
use Rattle.std.proofs.lemmas.List.{take_all, take_more}
use Rattle.dy_node.specs.inside.Chosen.{AreCounted}
use Rattle.dy_node.proofs.Counted.{counted_next, counted_none}
use Rattle.dy_node.proofs.settling.count_standing.Goals as goal
use Rattle.dy_node.proofs.settling.count_standing.Goals.{then-is_new, else-is_new}

-- of no receipt none is counted
pub loop-at-init : goal.loop-at-init
loop-at-init g c = record { few = omega arith; counted = counted_none c.args.stores.now.rooms }

-- one receipt more was looked at
pub loop-at-preserved : goal.loop-at-preserved
loop-at-preserved g c =
    let xs = c.args.receipts.now in
    let at = c.loop-at.at in
    let x = c.index-receipts-at.result in
    let count = c.loop-at.count in
    let grows = take_more xs at x c.loop-at-test.true ∙ ap (λ y. take at xs ++ y ∷ [])
    (sym c.index-receipts-at.is) in record {
      few = elim c.if-is_new.branch [ then-is_new w ↦ omega arith | else-is_new w ↦ omega arith ];
      counted = counted_next c.args.stores.now.rooms (take at xs) (take (at + 1) xs) x count
          c.if-is_new.count c.is_new.result c.loop-at.invariant.counted grows c.is_new.ensures
          (elim c.if-is_new.branch [
            | then-is_new w ↦ w.count-is ∙ ap (λ b. cond b (count + 1) count) (sym w.if-is_new.true)
            | else-is_new w ↦ w.count-is
                ∙ ap (λ b. cond b (count + 1) count) (sym w.if-is_new.false)
          ]);
    }

-- each receipt was looked at
pub returns : goal.returns
returns g c = subst (λ xs. AreCounted c.args.stores.now.rooms xs c.loop-at.count)
    (take_all c.loop-at.at c.args.receipts.now c.loop-at-test.false) c.loop-at.invariant.counted
