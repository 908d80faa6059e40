-- With zeros behind them, as many bytes are equal as they are.
use Rattle.std.proofs.Common.{◌∙◌, sym, subst}
use Rattle.dy_siblings.specs.inside.Leads.{AreFilled, IsKeyOf, IsLong}
use Rattle.std.specs.Arc.{arc_value}
use Rattle.dy_siblings.proofs.Words.{same_bytes}
use Rattle.dy_siblings.proofs.keys.Key.has_bytes_of.Goals as goal

pub returns-then-count-others : goal.returns-then-count-others
returns-then-count-others c =
    let mine : IsLong c.in-Long-Long.count (arc_value c.in-Long-Long.whole) c.args.self.now =
    subst (λ b. IsKeyOf b c.args.self.now) c.in-Long-Long.is-0
    (subst (IsKeyOf c.self.inside.bytes) c.self.view_is c.self.invariant) in
    let theirs : IsLong c.in-Long-Long.others (arc_value c.in-Long-Long.theirs) c.args.other.now =
    subst (λ b. IsKeyOf b c.args.other.now) c.in-Long-Long.is-1
    (subst (IsKeyOf c.other.inside.bytes) c.other.view_is c.other.invariant) in
    c.are_same.ensures.value
    ∙ same_bytes c.args.self.now c.args.other.now c.as_ref.result.now c.as_ref-then-count-others.result.now
    (subst (AreFilled c.args.self.now) (sym c.as_ref.ensures) mine.filled)
    (subst (AreFilled c.args.other.now) (sym c.as_ref-then-count-others.ensures) theirs.filled)
    (sym mine.count_is ∙ c.if-count-others.true ∙ theirs.count_is) c.are_same.ensures.size
