-- A receipt that holds says that its home covers the dot, so each release is allowed, one after
-- another;
-- the index follows release by release.
use Rattle.std.proofs.Common.{◌≡◌, List, map, length, Some, sym, ap, ◌∙◌, subst}
use Rattle.std.specs.List.{All}
use Rattle.dy_core.specs.Worlds.{World, layout_of}
use Rattle.dy_core.specs.Logs.{world_from}
use Rattle.dy_core.specs.declared.steps.Step.{Step}
use Rattle.dy_shares.specs.Shares.{Account, MayFollow, node_of, steps_of, untold}
use Rattle.dy_shares.specs.Shares.{with_entries as account_with, with_steps}
use Rattle.dy_book.specs.Books.{HasRoom, MayRelease, release_steps, with_untold, world_of}
use Rattle.dy_book.specs.inside.Kept.{IsBook}
use Rattle.dy_index.specs.Indexes.{IsIndex}
use Rattle.dy_book.proofs.Releasing.{of_node, release_book, releases_follow}
use Rattle.dy_book.proofs.books.Book.release_within.Goals as goal

pub node_steps-requires-clause-own : goal.node_steps-requires-clause-own
node_steps-requires-clause-own g c =
    let node = c.args.share.now.node in
    let rs = c.args.receipts.now in
    let steps_are : c.as_slice.result.now ≡ release_steps node rs =
    c.as_slice.ensures.value
    ∙ (c.in_ok-steps.ensures.ok ∙ ap (λ m. release_steps m rs) c.requires.holder) in
    subst (λ (ss : List Step). All (λ s. node_of s ≡ Some node) ss) (sym steps_are)
    (of_node node rs)

-- each may be given up, and the others stay so
pub node_steps-requires-clause-allowed : goal.node_steps-requires-clause-allowed
node_steps-requires-clause-allowed g c =
    let node = c.args.share.now.node in
    let rs = c.args.receipts.now in
    let ring = g.J.Naming.ring in
    let n = g.J.Naming.n in
    let steps_are : c.as_slice.result.now ≡ release_steps node rs =
    c.as_slice.ensures.value
    ∙ (c.in_ok-steps.ensures.ok ∙ ap (λ m. release_steps m rs) c.requires.holder) in
    let each = subst (λ s. All (MayRelease (world_of s) node) rs)
    (sym c.self.view_is) c.requires.each in
    let follow = releases_follow (layout_of ring n)
    (steps_of c.self.inside.ledger.log) node rs each c.requires.once
    c.learn_receipts.ensures.hold in
    subst (λ (ss : List Step). MayFollow ring n c.learn_receipts.new.self.log ss) (sym steps_are)
    (subst (λ (a : Account). MayFollow ring n a.log (release_steps node rs))
    (sym c.learn_receipts.ensures.log) follow)

pub returns-clause-log : goal.returns-clause-log
returns-clause-log g c =
    let b = c.self.inside in
    let node = c.args.share.now.node in
    let rs = c.args.receipts.now in
    let steps_are : c.as_slice.result.now ≡ release_steps node rs =
    c.as_slice.ensures.value
    ∙ (c.in_ok-steps.ensures.ok ∙ ap (λ m. release_steps m rs) c.requires.holder) in
    let full : c.node_steps.new.self ≡ account_with b.ledger (map untold (release_steps node rs)) =
    c.in_ok-node_steps.ensures.log
    ∙ (λ i. account_with (c.learn_receipts.ensures.log i) (map untold (steps_are i))) in
    (λ i. record { log = (full i).log; sessions = (full i).sessions; options = b.options })
    ∙ ap (λ s. with_untold s (release_steps node rs)) c.self.view_is

pub returns-clause-share : goal.returns-clause-share
returns-clause-share g c =
    let node = c.args.share.now.node in
    let rs = c.args.receipts.now in
    let steps_are : c.as_slice.result.now ≡ release_steps node rs =
    c.as_slice.ensures.value
    ∙ (c.in_ok-steps.ensures.ok ∙ ap (λ m. release_steps m rs) c.requires.holder) in
    c.in_ok-node_steps.ensures.share ∙ ap (with_steps c.args.share.now) steps_are

pub invariant_of-self : goal.invariant_of-self
invariant_of-self g c =
    let b = c.self.inside in
    subst (λ (a : Account). IsBook g.J.Naming.ring g.J.Naming.n g.J.Naming.r a.log b.options
    b.versions b.keys.entries)
    (sym (c.in_err-node_steps.ensures.err.0 ∙ c.learn_receipts.ensures.log)) c.self.invariant

pub invariant_of-self-2 : goal.invariant_of-self-2
invariant_of-self-2 g c =
    let b = c.self.inside in
    let node = c.args.share.now.node in
    let rs = c.args.receipts.now in
    let ring = g.J.Naming.ring in
    let n = g.J.Naming.n in
    let steps_are : c.as_slice.result.now ≡ release_steps node rs =
    c.as_slice.ensures.value
    ∙ (c.in_ok-steps.ensures.ok ∙ ap (λ m. release_steps m rs) c.requires.holder) in
    let full : c.node_steps.new.self ≡ account_with b.ledger (map untold (release_steps node rs)) =
    c.in_ok-node_steps.ensures.log
    ∙ (λ i. account_with (c.learn_receipts.ensures.log i) (map untold (steps_are i))) in
    let each = subst (λ s. All (MayRelease (world_of s) node) rs)
    (sym c.self.view_is) c.requires.each in
    let follow = releases_follow (layout_of ring n)
    (steps_of b.ledger.log) node rs each c.requires.once c.learn_receipts.ensures.hold in
    let room = subst (λ s. HasRoom s (length rs)) (sym c.self.view_is) c.requires.room in
    release_book ring n g.J.Naming.r b.ledger.log b.options b.versions b.keys.entries
    c.self.invariant node rs follow room c.give_up_all.new.keys.entries
    (subst (λ m. (w : World) → IsIndex w b.keys.entries →
    IsIndex (world_from w (release_steps m rs)) c.give_up_all.new.keys.entries)
    c.requires.holder c.give_up_all.ensures)
    c.node_steps.new.self.log (ap (λ a. a.log) full)
