use Rattle.std.proofs.Common.{◌≡◌, ◌∙◌, ◌+◌, ◌++◌, ◌∷◌, [], ap, sym, drop, length, arith}
use Rattle.std.proofs.lemmas.List.{length-append}
use Rattle.dy_preference.specs.inside.Walks.{met}
use Rattle.dy_preference.proofs.Distances.{met_kept, met_grown}
use Rattle.dy_preference.proofs.Rising.{has}
use Rattle.dy_preference.proofs.Stopping.{met_stops}
use Rattle.dy_preference.proofs.orders.meet.Goals as goal
use Rattle.dy_preference.proofs.orders.meet.Goals.{then-not-contains, else-not-contains}

-- all are met, so the rest of the walk adds none
pub returns-then-len-count : goal.returns-then-len-count
returns-then-len-count c =
    let full : length c.loop-token.nodes.items ≡ c.args.count = omega (arith, c.len.ensures, c.if-len-count.true) in
    met_stops c.args.count c.loop-token.nodes.items (met c.args.nodes.now.items c.args.tokens.now) (drop c.loop-token.token-index c.args.tokens.now) full c.loop-token.invariant.0

-- a node that is there is passed over, and another put at the end
pub loop-token-preserved : goal.loop-token-preserved
loop-token-preserved c =
    let i = c.loop-token.token-index in
    let ts = c.args.tokens.now in
    let t = c.token-item.result in
    let is : c.contains.result ≡ has c.loop-token.nodes.items t.1 = c.contains.ensures.value ∙ ap (λ l. has l t.1) c.deref.ensures.0 in
    elim c.if-not-contains.branch [
      | then-not-contains w ↦
          let grown : c.if-not-contains.nodes.items ≡ c.loop-token.nodes.items ++ t.1 ∷ [] = ap (λ v. v.items) w.nodes-is ∙ w.push.ensures.items in (
            ap (λ l. met l (drop (i + 1) ts)) grown
                ∙ met_grown c.loop-token.nodes.items ts i t _ c.loop-token-test.true c.token-item.is (sym is ∙ w.if-not-contains.true) c.loop-token.invariant.0,
            omega (arith, ap length grown, length-append c.loop-token.nodes.items (t.1 ∷ []), c.len.ensures, c.if-len-count.false, c.loop-token.invariant.1),
          )
      | else-not-contains w ↦
          let same = ap (λ v. v.items) w.nodes-is in (
            ap (λ l. met l (drop (i + 1) ts)) same
                ∙ met_kept c.loop-token.nodes.items ts i t _ c.loop-token-test.true c.token-item.is (sym is ∙ w.if-not-contains.false) c.loop-token.invariant.0,
            omega (arith, ap length same, c.loop-token.invariant.1),
          )
    ]
