-- What is kept agrees with a row that was checked, and what was added matches the world after the
-- hold; what the book refused is taken back.
use Rattle.std.proofs.Common.{◌≡◌, ◌++◌, sym, ap, ◌∙◌, subst, None, Some, inl, inr, ⊎_elim}
use Rattle.dy_siblings.specs.Siblings.{Siblings, AreOneByDot}
use Rattle.dy_core.specs.Worlds.{AreMadeOf, layout_of}
use Rattle.dy_book.specs.Books.{BookParts, HasRoom, world_of}
use Rattle.dy_node.specs.Stored.{Shows, versions_at}
use Rattle.dy_node.specs.Refusals.{HoldRefused}
use Rattle.dy_node.specs.inside.Placing.{taken_back}
use Rattle.dy_dots.specs.declared.faults.Fault.TheVariants.{OutOfMemory}
use Rattle.dy_node.proofs.Causes.{hold_by, hold_done, hold_memory}
use Rattle.dy_node.proofs.Kept.{agreed_on, hold_shows, kept_agrees}
use Rattle.dy_node.proofs.holding.hold_lent.Goals as goal

-- the row was checked
pub add-requires : goal.add-requires
add-requires g c =
    let layout = layout_of g.J.Naming.ring g.J.Naming.n in
    let same = c.agree.ensures.book in
    let share = c.agree.ensures.share in
    subst (λ (r : Siblings). AreOneByDot
    (versions_at c.args.stores.now.rooms c.args.home r.key ++ r.versions))
    (sym c.row-row.ensures)
    (kept_agrees layout c.agree.new.self c.agree.new.share c.args.stores.now
    (agreed_on layout c.args.book.now c.agree.new.self c.args.share.now c.agree.new.share same share
    (record { belongs = c.agree.ensures.belongs; legal = c.agree.ensures.legal }))
    (subst (λ q. Shows q c.args.stores.now) (sym share) c.requires.shown)
    c.args.home c.args.lent.now c.in-Ok.ensures.ok.0)

pub hold_issued-requires-clause-issued : goal.hold_issued-requires-clause-issued
hold_issued-requires-clause-issued g c =
    let row = c.row-row.result.now in
    subst (λ (b : BookParts). AreMadeOf (world_of b) row.key row.versions)
    (sym c.in-Ok.ensures.book)
    (subst (λ (r : Siblings). AreMadeOf (world_of c.agree.new.self) r.key r.versions)
    (sym c.row-row.ensures) c.in-Ok.ensures.ok.0)

pub hold_issued-requires-clause-room : goal.hold_issued-requires-clause-room
hold_issued-requires-clause-room g c =
    subst (λ (b : BookParts). HasRoom b 1) (sym c.in-Ok.ensures.book) c.in-Ok.ensures.ok.1

-- what was added is held
pub returns-in-Ok-hold_issued-clause-shown : goal.returns-in-Ok-hold_issued-clause-shown
returns-in-Ok-hold_issued-clause-shown g c =
    let layout = layout_of g.J.Naming.ring g.J.Naming.n in
    let same = c.agree.ensures.book in
    let share = c.agree.ensures.share in
    subst (λ q. Shows q c.add.new.self) (sym c.agree-in-Ok-hold_issued.ensures.share)
    (hold_shows layout c.check_lent.new.self c.hold_issued.new.self c.agree.new.share
    c.hold_issued.new.share
    c.args.stores.now c.add.new.self c.args.home c.row-row.result.now c.in-Ok-add.placed
    (agreed_on layout c.args.book.now c.check_lent.new.self c.args.share.now c.agree.new.share
    (c.in-Ok.ensures.book ∙ same) share
    (record { belongs = c.agree.ensures.belongs; legal = c.agree.ensures.legal }))
    (record {
      belongs = c.agree-in-Ok-hold_issued.ensures.belongs;
      legal = c.agree-in-Ok-hold_issued.ensures.legal;
    })
    (subst (λ q. Shows q c.args.stores.now) (sym share) c.requires.shown)
    c.in-Ok-hold_issued.ensures.log c.in-Ok-hold_issued.ensures.share c.in-Ok-add.ensures.counters
    c.in-Ok-add.ensures.added)

-- what was put is taken back
pub returns-in-Err-hold_issued-clause-shown : goal.returns-in-Err-hold_issued-clause-shown
returns-in-Err-hold_issued-clause-shown g c =
    let rooms = ap (λ k. taken_back c.add.new.self.rooms c.args.home k c.in-Ok-add.placed) c.key.ensures
    ∙ c.in-Ok-add.ensures.added.back in
    let back : c.take_back.new.self ≡ c.args.stores.now =
    c.take_back.ensures ∙ (λ i. record { rooms = rooms i; counters = c.in-Ok-add.ensures.counters i })
    in
    subst (Shows c.hold_issued.new.share) (sym back)
    (subst (λ q. Shows q c.args.stores.now)
    (sym (c.in-Err-hold_issued.ensures.err.1 ∙ c.agree.ensures.share)) c.requires.shown)

-- the check refused it
pub returns-in-Err-clause-refused : goal.returns-in-Err-clause-refused
returns-in-Err-clause-refused g c =
    subst (λ b. HoldRefused b c.args.lent.now (Some c.in-Err.fault)) c.agree.ensures.book
    (hold_by c.agree.new.self c.args.lent.now c.in-Err.fault c.in-Err.ensures.not_issued
    c.in-Err.ensures.steps_full (⊎_elim (λ named. inl named) (λ full. inr (inl full)) c.in-Err.ensures.only))

-- the node lacked memory, or the book did
pub returns-in-Err-add-clause-refused : goal.returns-in-Err-add-clause-refused
returns-in-Err-add-clause-refused g c =
    subst (λ b. HoldRefused b c.args.lent.now (Some OutOfMemory)) c.agree.ensures.book
    (hold_memory c.agree.new.self c.args.lent.now c.in-Ok.ensures.ok.0 c.in-Ok.ensures.ok.1)

pub returns-in-Err-hold_issued-clause-refused : goal.returns-in-Err-hold_issued-clause-refused
returns-in-Err-hold_issued-clause-refused g c =
    subst (λ b. HoldRefused b c.args.lent.now (Some c.in-Err-hold_issued.fault)) c.agree.ensures.book
    (subst (λ f. HoldRefused c.agree.new.self c.args.lent.now (Some f))
    (sym c.in-Err-hold_issued.ensures.memory)
    (hold_memory c.agree.new.self c.args.lent.now c.in-Ok.ensures.ok.0 c.in-Ok.ensures.ok.1))

-- the row is held
pub returns-in-Ok-hold_issued-clause-refused : goal.returns-in-Ok-hold_issued-clause-refused
returns-in-Ok-hold_issued-clause-refused g c =
    subst (λ b. HoldRefused b c.args.lent.now None) c.agree.ensures.book
    (hold_done c.agree.new.self c.args.lent.now c.in-Ok.ensures.ok.0 c.in-Ok.ensures.ok.1)
