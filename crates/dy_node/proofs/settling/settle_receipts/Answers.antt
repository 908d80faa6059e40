-- What stands in hints is held in the world, so it may be released, and leaves store and world
-- alike.
use Rattle.std.proofs.Common.{true≢false, None, Some, sym, ap, ◌∙◌, subst, arith}
use Rattle.std.specs.List.{All}
use Rattle.dy_core.specs.Worlds.{layout_of}
use Rattle.dy_shares.specs.Shares.{NodePart, with_steps}
use Rattle.dy_book.specs.Books.{AreOfDistinctDots, BookParts, HasRoom, LacksRoom, MayRelease}
use Rattle.dy_book.specs.Books.{release_steps, with_untold, world_of}
use Rattle.dy_node.specs.Stored.{Shows}
use Rattle.dy_node.specs.Settling.{AreReleased, ReleaseRefused, without_all}
use Rattle.dy_node.proofs.Counted.{none_counted, some_counted}
use Rattle.dy_node.proofs.PlanCauses.{release_by, release_done, release_full, release_memory}
use Rattle.dy_node.proofs.Kept.{agreed_on}
use Rattle.dy_node.proofs.SettleLemmas.{releasable, released_nothing}
use Rattle.dy_node.proofs.SettleLemmas.{settle_shows}
use Rattle.dy_node.proofs.settling.settle_receipts.Goals as goal

-- what stands in hints may be released
pub release-requires-clause-each : goal.release-requires-clause-each
release-requires-clause-each g c =
    let layout = layout_of g.J.Naming.ring g.J.Naming.n in
    let at = releasable layout c.args.book.now c.args.share.now c.args.stores.now
    c.args.receipts.now c.in-Ok.chosen.items
    (record { belongs = c.agree.ensures.belongs; legal = c.agree.ensures.legal }) c.requires.shown
    c.requires.own c.in-Ok.ensures.chosen in
    subst (All (MayRelease (world_of c.agree.new.self) c.agree.new.share.node))
    (sym c.as_slice.ensures.value)
    (subst (λ (b : BookParts). All (MayRelease (world_of b) c.agree.new.share.node)
    c.in-Ok.chosen.items) (sym c.agree.ensures.book)
    (subst (λ (p : NodePart). All (MayRelease (world_of c.args.book.now) p.node)
    c.in-Ok.chosen.items) (sym c.agree.ensures.share) at))

pub release-requires-clause-once : goal.release-requires-clause-once
release-requires-clause-once g c =
    subst AreOfDistinctDots (sym c.as_slice.ensures.value) c.in-Ok.ensures.chosen.apart

-- what was released is no longer kept
pub returns-in-Ok-release-clause-shown : goal.returns-in-Ok-release-clause-shown
returns-in-Ok-release-clause-shown g c =
    let layout = layout_of g.J.Naming.ring g.J.Naming.n in
    let same = c.agree.ensures.book in
    let share = c.agree.ensures.share in
    subst (λ q. Shows q c.drop_all.new.stores) (sym c.agree-in-Ok-release.ensures.share)
    (settle_shows layout c.agree.new.self c.release.new.self c.agree.new.share c.release.new.share
    c.args.stores.now c.drop_all.new.stores c.as_slice.result.now
    (agreed_on layout c.args.book.now c.agree.new.self c.args.share.now c.agree.new.share same share
    (record { belongs = c.agree.ensures.belongs; legal = c.agree.ensures.legal }))
    (record {
      belongs = c.agree-in-Ok-release.ensures.belongs;
      legal = c.agree-in-Ok-release.ensures.legal;
    })
    (subst (λ q. Shows q c.args.stores.now) (sym share) c.requires.shown)
    c.in-Ok-release.ensures.log c.in-Ok-release.ensures.share c.drop_all.ensures.counters
    (c.drop_all.ensures.rooms ∙ ap (without_all c.args.stores.now.rooms)
    (c.as_slice-in-Ok-release.ensures.value ∙ sym c.as_slice.ensures.value)))

-- the receipts that were chosen
pub returns-in-Ok-release-clause-ok : goal.returns-in-Ok-release-clause-ok
returns-in-Ok-release-clause-ok g c =
    let items = c.as_slice.ensures.value in
    let same = c.agree.ensures.book in
    let share = c.agree.ensures.share in record {
      released = c.in-Ok.chosen.items;
      are_released = c.in-Ok.ensures.chosen;
      count_is = omega (arith, c.len.ensures, c.in-Ok.chosen.ok.0);
      log = c.agree-in-Ok-release.ensures.book ∙ c.in-Ok-release.ensures.log
          ∙ (λ i. with_untold (same i) (release_steps ((share i).node) (items i)));
      share = c.agree-in-Ok-release.ensures.share ∙ c.in-Ok-release.ensures.share
          ∙ (λ i. with_steps (share i) (release_steps ((share i).node) (items i)));
      rooms = c.drop_all.ensures.rooms ∙ ap (without_all c.args.stores.now.rooms)
          c.as_slice-in-Ok-release.ensures.value;
    }

-- more stand than steps are left
pub returns-then-lacks_steps-clause-refused : goal.returns-then-lacks_steps-clause-refused
returns-then-lacks_steps-clause-refused g c =
    let count = c.count_standing-count.result in
    let lacks = c.lacks_steps.ensures.lacks c.if-lacks_steps.true in
    release_full c.args.book.now c.args.stores.now.rooms c.args.receipts.now count
    c.count_standing-count.ensures (subst (λ b. LacksRoom b count) c.agree.ensures.book lacks.1)

-- then something stands
pub returns-then-lacks_steps-clause-spared : goal.returns-then-lacks_steps-clause-spared
returns-then-lacks_steps-clause-spared g c = λ none.
    let lacks = c.lacks_steps.ensures.lacks c.if-lacks_steps.true in
    absurd (none_counted c.args.stores.now.rooms c.args.receipts.now
    c.count_standing-count.result c.count_standing-count.ensures none lacks.0)

-- memory was refused where something stands, and steps are left for it
pub returns-in-Err-clause-refused : goal.returns-in-Err-clause-refused
returns-in-Err-clause-refused g c =
    let count = c.count_standing-count.result in
    let rooms = c.args.stores.now.rooms in
    let counted = c.count_standing-count.ensures in
    let some = some_counted rooms c.args.receipts.now count counted
    (λ none. true≢false (sym (c.in-Err.ensures.spared none))) in
    release_memory c.args.book.now rooms c.args.receipts.now count counted
    (subst (λ b. HasRoom b count) c.agree.ensures.book
    (c.lacks_steps.ensures.has c.if-lacks_steps.false some))

-- the hints were given up
pub returns-in-Ok-release-clause-refused : goal.returns-in-Ok-release-clause-refused
returns-in-Ok-release-clause-refused g c =
    subst (λ b. ReleaseRefused b c.args.stores.now.rooms c.args.receipts.now None)
    c.agree.ensures.book
    (release_done c.agree.new.self c.args.stores.now.rooms c.args.receipts.now c.as_slice.result.now
    tt
    (subst (AreReleased c.args.stores.now.rooms c.args.receipts.now) (sym c.as_slice.ensures.value)
    c.in-Ok.ensures.chosen)
    c.in-Ok-release.ensures.steps_full)

-- the book is the one that was lent, and the receipts are those that were chosen
pub returns-clause-refused : goal.returns-clause-refused
returns-clause-refused g c =
    subst (λ b. ReleaseRefused b c.args.stores.now.rooms c.args.receipts.now
    (Some c.in-Err-release.fault)) c.agree.ensures.book
    (release_by c.agree.new.self c.args.stores.now.rooms c.args.receipts.now c.as_slice.result.now
    c.in-Err-release.fault
    (subst (AreReleased c.args.stores.now.rooms c.args.receipts.now) (sym c.as_slice.ensures.value)
    c.in-Ok.ensures.chosen)
    c.in-Err-release.ensures.steps_full c.in-Err-release.ensures.only)

-- where nothing stands nothing is chosen, and the book refuses nothing
pub returns-clause-spared : goal.returns-clause-spared
returns-clause-spared g c = λ none.
    c.in-Err-release.ensures.spared (c.as_slice.ensures.value
    ∙ released_nothing c.args.stores.now.rooms c.args.receipts.now c.in-Ok.chosen.items none
    c.in-Ok.ensures.chosen)
