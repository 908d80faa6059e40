use Rattle.std.proofs.Common.{length-append, ◌≡◌, ◌<◌, ◌+◌, ◌++◌, ◌∷◌, [], arith, sym, ◌∙◌, subst, length}
use Rattle.std.proofs.lemmas.List.Elements.{All-push}
use Rattle.dy_dots.specs.declared.nodes.TheConstants.{MAX_NODES}
use Rattle.dy_shares.specs.Shares.{ReceiptParts}
use Rattle.dy_quorum.specs.Tallies.{Counted, FitsAll}
use Rattle.dy_quorum.proofs.Firsts.{homes_same, homes_more, room_for}
use Rattle.dy_quorum.proofs.Choices.{agree_more, count_push}
use Rattle.dy_quorum.proofs.tallies.Tally.add.Goals as goal
use Rattle.dy_quorum.proofs.tallies.Tally.add.Goals.{then-not-contains, else-not-contains}

pub push-requires : goal.push-requires
push-requires g c =
    let inv = c.self.invariant in
    let added = c.self.inside.added.items in
    let tested = rw (c.deref.ensures.0, c.home-home.ensures) at c.contains.ensures.value in
    let node : c.args.receipt.home < MAX_NODES = omega (arith, c.home-home.ensures, c.number-number.ensures.value, c.number-number.ensures.small) in
    let counts = inv.1 in
    let few : length c.self.inside.homes.items < 32 = room_for (λ (r : ReceiptParts). r.home) 32 added
    c.args.receipt c.self.inside.homes.items inv.0 counts.firsts_are
    (All-push (λ (r : ReceiptParts). r.home < MAX_NODES) added c.args.receipt inv.4 node)
    (sym tested ∙ c.if-not-contains.true) in
    (omega arith, few)

pub invariant_of-self : goal.invariant_of-self
invariant_of-self g c =
    let inv = c.self.invariant in
    let P : Counted → Type 0 = λ t. length t.added < t.room in
    let room : length c.self.inside.added.items < c.self.inside.room = subst P (sym c.self.view_is) c.requires.room in
    let Q : Counted → Type 0 = λ t. FitsAll t.added c.args.receipt in
    let fits : FitsAll c.self.inside.added.items c.args.receipt = subst Q (sym c.self.view_is) c.requires.fits in
    let tested = rw (c.deref.ensures.0, c.home-home.ensures) at c.contains.ensures.value in
    let more : length (c.self.inside.added.items ++ c.args.receipt ∷ []) ≡ length c.self.inside.added.items + 1 = length-append c.self.inside.added.items (c.args.receipt ∷ []) in
    let node : c.args.receipt.home < MAX_NODES = omega (arith, c.home-home.ensures, c.number-number.ensures.value, c.number-number.ensures.small) in
    let small = All-push (λ (r : ReceiptParts). r.home < MAX_NODES) c.self.inside.added.items c.args.receipt inv.4 node in
    rw (c.push_reserved.ensures.items, c.push_reserved.ensures.capacity) (elim c.if-not-contains.branch [
      | then-not-contains w ↦ rw (w.self-inside-is)
          (rw (w.push.ensures.items, c.home-home.ensures) (homes_more (λ (r : ReceiptParts). r.home) c.self.inside.added.items c.args.receipt _ inv.0 (sym tested ∙ w.if-not-contains.true)), count_push _ _ inv.1 fits, omega arith, inv.3, small, agree_more _ _ inv.5 fits)
      | else-not-contains w ↦ rw (w.self-inside-is)
          (homes_same (λ (r : ReceiptParts). r.home) c.self.inside.added.items c.args.receipt _ inv.0 (sym tested ∙ w.if-not-contains.false), count_push _ _ inv.1 fits, omega arith, inv.3, small, agree_more _ _ inv.5 fits)
    ])

-- so do those with one more
pub returns-clause-agree : goal.returns-clause-agree
returns-clause-agree g c =
    let inv = c.self.invariant in
    let Q : Counted → Type 0 = λ t. FitsAll t.added c.args.receipt in
    let fits : FitsAll c.self.inside.added.items c.args.receipt = subst Q (sym c.self.view_is) c.requires.fits in
    rw c.push_reserved.ensures.items (elim c.if-not-contains.branch [
      | then-not-contains w ↦ rw (w.self-inside-is) (agree_more _ _ inv.5 fits)
      | else-not-contains w ↦ rw (w.self-inside-is) (agree_more _ _ inv.5 fits)
    ])
