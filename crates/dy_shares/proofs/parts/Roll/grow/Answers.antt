-- The keeper takes the share in, changes it with its seat in one step, and gives it out again.
use Rattle.std.proofs.Common.{◌≡◌, [], ◌∷◌, ◌++◌, set, refl, sym, ap, ◌∙◌, subst}
use mathlib.Core.Option.{some}
use prog.Atomic.{either}
use Rattle.std.proofs.Common.{◌==◌}
use Rattle.atomic_table.specs.Table.{Me, Allows, step}
use Rattle.dy_shares.specs.declared.parts.View.{View}
use Rattle.dy_shares.specs.inside.Agreeing.{IsOut, knower, share_of, knower_with, holding, part_of, grown, alone, lent, Grows}
use Rattle.dy_shares.proofs.Agreements.{Rule, takes_in_as, gives_out_as, grows_as, taken}
use Rattle.dy_shares.proofs.Returning.{out_longer}
use Rattle.dy_shares.proofs.parts.Roll.grow.Goals as goal

pub join_seat-requires : goal.join_seat-requires
join_seat-requires g c =
    let i = c.self.invariant in
    let s = c.share.invariant in
    let t = c.into_seat-party.ensures in
    let same = c.replace.ensures.value in
    let theirs = taken _ _ _ (sym t.2 ∙ ap (λ b. b.views) same ∙ s.1) in
    (i.1 ∙ sym i.0, t.0 ∙ ap (λ b. b.table_id) same ∙ s.0 ∙ sym i.0, t.3, i.2, takes_in_as c.self.inside.keeper.id c.into_seat-party.result.id _ c.self.inside.keeper.me.0 c.into_seat-party.result.me.0 _ _ (ap (λ m. m.0) i.3) theirs)

pub compare_exchange_with-requires : goal.compare_exchange_with-requires
compare_exchange_with-requires g c =
    let i = c.self.invariant in
    let s = c.share.invariant in
    let t = c.into_seat-party.ensures in
    let j = c.join_seat.ensures in
    let theirs = taken _ _ _ (sym t.2 ∙ ap (λ b. b.views) c.replace.ensures.value ∙ s.1) in
    let own = part_of c.share.inside.badge.views in
    let parts = c.self.inside.keeper.me.0.parts in
    let index = c.share.inside.index in
    let held : c.join_seat.new.seat.me ≡ (knower_with parts index own, []) = j.2 ∙ (λ k. (holding (i.3 k).0 (theirs k), (i.3 k).1)) in
    let slots = c.self.inside.table.shared.table_id.slots in
    let id = c.join_seat.new.seat.id in (
      j.0 ∙ i.1 ∙ sym i.0,
      i.2,
      subst (λ (m : Me _ View). Allows Rule slots id m 0 (λ n. either (n == 0) 0 n) (Grows (step slots 0 0 0 (some c.args.added.now)) m)) (sym held)
          (grows_as id slots index (knower_with parts index own) parts own c.args.added.now (λ n. either (n == 0) 0 n) refl),
    )

pub split_seat-party-requires : goal.split_seat-party-requires
split_seat-party-requires g c =
    let i = c.self.invariant in
    let s = c.share.invariant in
    let t = c.into_seat-party.ensures in
    let j = c.join_seat.ensures in
    let x = c.compare_exchange_with.ensures in
    let theirs = taken _ _ _ (sym t.2 ∙ ap (λ b. b.views) c.replace.ensures.value ∙ s.1) in
    let own = part_of c.share.inside.badge.views in
    let parts = c.self.inside.keeper.me.0.parts in
    let index = c.share.inside.index in
    let more = own ++ c.args.added.now in
    let held : c.join_seat.new.seat.me ≡ (knower_with parts index own, []) = j.2 ∙ (λ k. (holding (i.3 k).0 (theirs k), (i.3 k).1)) in
    let after : c.compare_exchange_with.new.seat.me ≡ (knower_with (set parts index more) index more, []) = x.2 c.args.added.now refl ∙ ap (λ (m : Me _ View). (grown m.0 c.args.added.now, m.1)) held in
    (x.0 ∙ j.0 ∙ i.1 ∙ sym i.0, i.2, gives_out_as c.compare_exchange_with.new.seat.id index c.compare_exchange_with.new.seat.me.0 (set parts index more) more (ap (λ m. m.0) after))

pub invariant_of-self : goal.invariant_of-self
invariant_of-self g c =
    let i = c.self.invariant in
    let s = c.share.invariant in
    let t = c.into_seat-party.ensures in
    let j = c.join_seat.ensures in
    let x = c.compare_exchange_with.ensures in
    let l = c.split_seat-party.ensures in
    let theirs = taken _ _ _ (sym t.2 ∙ ap (λ b. b.views) c.replace.ensures.value ∙ s.1) in
    let own = part_of c.share.inside.badge.views in
    let parts = c.self.inside.keeper.me.0.parts in
    let index = c.share.inside.index in
    let more = own ++ c.args.added.now in
    let held : c.join_seat.new.seat.me ≡ (knower_with parts index own, []) = j.2 ∙ (λ k. (holding (i.3 k).0 (theirs k), (i.3 k).1)) in
    let after : c.compare_exchange_with.new.seat.me ≡ (knower_with (set parts index more) index more, []) = x.2 c.args.added.now refl ∙ ap (λ (m : Me _ View). (grown m.0 c.args.added.now, m.1)) held in
    let back : c.split_seat-party.new.seat.me ≡ (knower (set parts index more), []) = l.2 ∙ ap (λ (m : Me _ View). (alone m.0, m.1)) after in
    (i.0, l.0 ∙ x.0 ∙ j.0 ∙ i.1, i.2, back ∙ ap (λ (m : Me _ View). (knower m.0.parts, [])) (sym back))

pub invariant_of-share : goal.invariant_of-share
invariant_of-share g c =
    let i = c.self.invariant in
    let s = c.share.invariant in
    let t = c.into_seat-party.ensures in
    let j = c.join_seat.ensures in
    let x = c.compare_exchange_with.ensures in
    let l = c.split_seat-party.ensures in
    let b = c.into_badge.ensures in
    let theirs = taken _ _ _ (sym t.2 ∙ ap (λ b. b.views) c.replace.ensures.value ∙ s.1) in
    let own = part_of c.share.inside.badge.views in
    let parts = c.self.inside.keeper.me.0.parts in
    let index = c.share.inside.index in
    let more = own ++ c.args.added.now in
    let held : c.join_seat.new.seat.me ≡ (knower_with parts index own, []) = j.2 ∙ (λ k. (holding (i.3 k).0 (theirs k), (i.3 k).1)) in
    let after : c.compare_exchange_with.new.seat.me ≡ (knower_with (set parts index more) index more, []) = x.2 c.args.added.now refl ∙ ap (λ (m : Me _ View). (grown m.0 c.args.added.now, m.1)) held in
    let out : c.into_badge.result.views ≡ share_of index more ∷ [] = b.2 ∙ ap (λ (m : Me _ View). m.0 ∷ []) l.4 ∙ ap (λ (m : Me _ View). lent m.0 ∷ []) after in
    (b.0 ∙ l.3 ∙ x.0 ∙ j.0 ∙ i.1, out ∙ ap (λ vs. share_of index (part_of vs) ∷ []) (sym out), subst (λ vs. IsOut (part_of vs)) (sym out) (out_longer own c.args.added.now s.2 c.requires))
