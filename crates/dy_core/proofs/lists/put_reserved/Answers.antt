use Rattle.std.proofs.Common.{◌≡◌, ◌++◌, length, take, drop, eqb, sym, ap, ◌∙◌, subst, arith}
use Rattle.std.specs.Ordering.{ordering_index}
use Rattle.dy_core.specs.Orders.{put}
use Rattle.dy_core.proofs.Putting.{put_tie}
use Rattle.dy_core.proofs.lists.put_reserved.Goals as goal

-- instead of the one at the place
pub returns-then-eq : goal.returns-then-eq
returns-then-eq g c =
    let R = g.T.Ranked.ranked in
    let xs = c.args.list.now.items in
    let at = c.place_in-at.result in
    let x = c.args.item in
    let before = subst (λ zs. put R zs x ≡ take at zs ++ put R (drop at zs) x)
    c.as_slice.ensures.value c.place_in-at.ensures.before in
    let len : c.len.result ≡ length xs = c.len.ensures ∙ c.args.list.now.ok.0 in
    put_tie R xs at x c.index.result.now
    (omega (arith, len, c.if-at-len.true)) before c.index.ensures
    (ap (λ r. eqb (ordering_index r) 1) (sym c.rank.ensures) ∙ (sym c.eq.ensures ∙ c.if-eq.true))
