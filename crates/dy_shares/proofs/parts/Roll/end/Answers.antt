-- The keeper takes the share in for good: both are one, and the seat is marked.
use Rattle.std.proofs.Common.{◌≡◌, [], refl, sym, ap, ◌∙◌, subst}
use mathlib.Core.Option.{none}
use Rattle.atomic_table.specs.Table.{Me, Allows, step}
use Rattle.dy_shares.specs.declared.parts.View.{View}
use Rattle.dy_shares.specs.inside.Agreeing.{knower_with, holding, part_of, Retires}
use Rattle.dy_shares.proofs.Agreements.{Rule, takes_in_as, retires_as, taken}
use Rattle.dy_shares.proofs.parts.Roll.end.Goals as goal

pub join_seat-requires : goal.join_seat-requires
join_seat-requires g c =
    let i = c.self.invariant in
    let s = c.share.invariant in
    let t = c.into_seat-party.ensures in
    let theirs = taken _ _ _ (sym t.2 ∙ s.1) in
    (i.1 ∙ sym i.0, t.0 ∙ s.0 ∙ sym i.0, t.3, i.2, takes_in_as c.self.inside.keeper.id c.into_seat-party.result.id _ c.self.inside.keeper.me.0 c.into_seat-party.result.me.0 _ _ (ap (λ m. m.0) i.3) theirs)

pub load-requires : goal.load-requires
load-requires g c =
    let i = c.self.invariant in
    let s = c.share.invariant in
    let t = c.into_seat-party.ensures in
    let j = c.join_seat.ensures in
    let theirs = taken _ _ _ (sym t.2 ∙ s.1) in
    let own = part_of c.share.inside.badge.views in
    let parts = c.self.inside.keeper.me.0.parts in
    let index = c.share.inside.index in
    let held : c.join_seat.new.seat.me ≡ (knower_with parts index own, []) = j.2 ∙ (λ k. (holding (i.3 k).0 (theirs k), (i.3 k).1)) in
    let slots = c.self.inside.table.shared.table_id.slots in
    let id = c.join_seat.new.seat.id in
    (j.0 ∙ i.1 ∙ sym i.0, i.2, subst (λ (m : Me _ View). Allows Rule slots id m 0 (λ n. n) (Retires (step slots 0 0 0 none) m)) (sym held) (retires_as id slots index (knower_with parts index own) parts own refl))
