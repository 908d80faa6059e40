use Rattle.std.proofs.Common.{length, sym, ap, ◌∙◌, subst, arith}
use mathlib.Core.List.{IsPrefix}
use Rattle.dy_shares.specs.inside.Growth.{joined}
use Rattle.dy_shares.proofs.Batons.{looks_moves}
use Rattle.dy_shares.proofs.Fronts.{joined_begins, prefix_length}
use Rattle.dy_shares.proofs.chronicles.Chronicle.learn.Goals as goal

-- who has the baton finds the whole history
pub compare_exchange-requires : goal.compare_exchange-requires
compare_exchange-requires g c =
    let i = c.self.invariant in
    let own = c.self.inside.seen.log in
    let both = c.learn.new.self.log in
    let offer = c.plain-offer.ensures in
    let here = ap (λ w. w.book) i.1 in
    let o : IsPrefix own both = subst (λ s. IsPrefix s both) (ap (λ s. s.log) c.again-both.ensures) c.learn.ensures.2 in (
      ap (λ w. w.tracked) i.1,
      c.learn.ensures.0 ∙ (ap (λ s. s.book) c.again-both.ensures ∙ (i.0 ∙ sym here)),
      i.2 ∙ sym here,
      offer.0,
      rw (ap (λ w. w.key) i.1, i.3, offer.3) (looks_moves both c.plain-offer.result.ask (length own) (prefix_length own both o)),
    )

-- the front of its own stays
pub returns-clause-same : goal.returns-clause-same
returns-clause-same g c = c.self.view_is

pub returns-clause-begins : goal.returns-clause-begins
returns-clause-begins g c =
    let own = c.self.inside.seen.log in
    let front = c.front.inside.seen.log in
    let both = c.learn.new.self.log in
    let x = c.compare_exchange.ensures in
    let o : IsPrefix own both = subst (λ s. IsPrefix s both) (ap (λ s. s.log) c.again-both.ensures) c.learn.ensures.2 in
    let key = ap (λ n. n.key) c.self.invariant.3 in
    let begins = joined_begins front own both c.compare_exchange.new.seen.log o c.learn.ensures.3 x.6 (omega (arith, x.7.0, key)) in
    subst (λ l. IsPrefix l c.args.self.now) c.front.view_is (subst (λ l. IsPrefix (joined front) l) c.self.view_is begins)
