use Rattle.std.proofs.Common.{List, [], ◌∷◌, ◌++◌, ◌+◌, rules, sym, ap, ◌∙◌, subst, arith}
use Rattle.dy_shares.specs.declared.entries.Done.{Done}
use Rattle.dy_shares.specs.inside.Parts.{IsRollOf}
use Rattle.dy_shares.specs.Shares.{first_parts}
use Rattle.dy_shares.proofs.Accounts.{first_more}
use Rattle.dy_shares.proofs.Rolls.{roll_opened}
use Rattle.dy_shares.proofs.node_shares.open_nodes.Goals as goal

-- the roll has a seat more, and the shares have its node's
pub loop-number-preserved : goal.loop-number-preserved
loop-number-preserved g c =
    let l = c.loop-number in
    let i = l.invariant in
    let nodes = g.J.Naming.ring.nodes in (
      subst (λ (roll : List (List Done)). IsRollOf nodes [] (l.number + 1) roll) (sym c.open-share.ensures.roll) (roll_opened nodes [] l.number l.roll i.0),
      c.push_reserved.ensures.items ∙ (ap (λ xs. xs ++ c.new.result ∷ []) i.1 ∙ (ap (λ p. first_parts l.number ++ p ∷ []) (search rules) ∙ sym (first_more l.number))),
      omega (arith, c.push_reserved.ensures.len, i.2),
      c.push_reserved.ensures.capacity ∙ i.3,
    )
