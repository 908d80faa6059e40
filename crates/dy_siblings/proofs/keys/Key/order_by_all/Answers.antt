-- The words decide, and then the lengths.
use Rattle.std.proofs.Common.{◌∙◌, nat_cmp, sym, subst}
use Rattle.std.specs.Arc.{arc_value}
use Rattle.std.specs.Ordering.{ordering_then}
use Rattle.dy_siblings.specs.inside.Leads.{AreFilled, IsKeyOf, IsLong, whole_of}
use Rattle.dy_siblings.proofs.Words.{ordered_by_all, same_lead}
use Rattle.dy_siblings.proofs.keys.Key.order_by_all.Goals as goal

pub returns-in-Long-Long : goal.returns-in-Long-Long
unfolding whole_of
returns-in-Long-Long c =
    let mine : IsLong c.in-Long-Long.count (arc_value c.in-Long-Long.whole) c.args.self.now =
    subst (λ b. IsKeyOf b c.args.self.now) c.in-Long-Long.is-0
    (subst (IsKeyOf c.self.inside.bytes) c.self.view_is c.self.invariant) in
    let theirs : IsLong c.in-Long-Long.others (arc_value c.in-Long-Long.theirs) c.args.other.now =
    subst (λ b. IsKeyOf b c.args.other.now) c.in-Long-Long.is-1
    (subst (IsKeyOf c.other.inside.bytes) c.other.view_is c.other.invariant) in
    let all = same_lead 64 0 c.args.self.now c.as_ref.result.now
    (subst (AreFilled c.args.self.now) (sym c.as_ref.ensures) mine.filled) in
    let others = same_lead 64 0 c.args.other.now c.as_ref-in-Long-Long.result.now
    (subst (AreFilled c.args.other.now) (sym c.as_ref-in-Long-Long.ensures) theirs.filled) in
    let size = mine.size in
    c.then.ensures
    ∙ (λ i. ordering_then (c.order_of_words.ensures i) (c.cmp.ensures i))
    ∙ (λ i. ordering_then (nat_cmp (all i) (others i)) (nat_cmp (mine.count_is i) (theirs.count_is i)))
    ∙ ordered_by_all 64 c.args.self.now c.args.other.now mine.small theirs.small size.1
