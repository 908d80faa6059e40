-- The steps are those of the share's node, and the copies are of the version. The part is as before
-- where the hold was refused, since the version is taken out again; else it has the version with its
-- maker's others, and at its place.
use Rattle.std.proofs.Common.{◌≡◌, ◌≢◌, ℕ, ◌++◌, ◌∷◌, List, [], map, sym, ap, ◌∙◌, subst, Some}
use Rattle.dy_siblings.specs.Siblings.{Siblings, AreOneByDot}
use Rattle.dy_siblings.specs.declared.versions.Version.{Version}
use Rattle.dy_core.specs.Worlds.{layout_of}
use Rattle.dy_core.specs.inside.Meanings.{row_in}
use Rattle.dy_core.specs.Logs.{world_after}
use Rattle.dy_core.specs.declared.holdings.Holding.{Holding}
use Rattle.dy_core.specs.declared.steps.Step.{Step}
use Rattle.dy_shares.specs.Shares.{Account, steps_of, untold, with_entries, with_steps, MayFollow}
use Rattle.dy_index.specs.declared.parts.KeyPart.{KeyPart}
use Rattle.dy_book.specs.Books.{issue_steps, row_alone}
use Rattle.dy_index.specs.Indexes.{IsPart, made_by}
use Rattle.dy_index.specs.Lists.{list_at}
use Rattle.dy_index.specs.Merges.{IsHeldAt}
use Rattle.dy_book.proofs.Holding.{issue_allowed, issue_agrees, issue_part}
use Rattle.dy_index.proofs.Indexing.{part_renamed}
use Rattle.dy_index.proofs.Indexing.{removed_again}
use Rattle.dy_book.proofs.issues.issue_in.Goals as goal

pub hold_at-requires-clause-agree : goal.hold_at-requires-clause-agree
hold_at-requires-clause-agree g c =
    let layout = layout_of g.J.Naming.ring g.J.Naming.n in
    let node = c.args.share.now.node in
    let row_is = c.in_ok-row.ensures.ok ∙ ap row_alone c.in_ok-try_clone.ensures.value in
    subst (λ (hs : List Holding). AreOneByDot
    (row_in hs node c.args.home c.in_ok-row.row.key ++ c.in_ok-row.row.versions))
    (sym (ap (λ v. v.items) c.in_ok-add.ensures.places))
    (subst (λ (r : Siblings). AreOneByDot
    (row_in c.args.part.now.places.items node c.args.home r.key ++ r.versions))
    (sym row_is)
    (issue_agrees layout c.args.ledger.now.log c.requires.legal node c.args.home
    c.args.version.now c.requires.next c.requires.room c.requires.may_hold c.args.part.now
    c.requires.part))

pub hold_at-requires-clause-allowed : goal.hold_at-requires-clause-allowed
hold_at-requires-clause-allowed g c =
    let v = c.args.version.now in
    let steps_are = c.steps_of_issue-steps.ensures
    ∙ ap (λ m. issue_steps m c.args.home v) c.node-node.ensures.value in
    subst (MayFollow g.J.Naming.ring g.J.Naming.n c.args.ledger.now.log) (sym steps_are)
    (issue_allowed (layout_of g.J.Naming.ring g.J.Naming.n) c.args.ledger.now.log c.requires.legal
    c.args.share.now.node c.args.home v c.requires.next c.requires.room c.requires.may_hold)

pub returns-clause-log : goal.returns-clause-log
returns-clause-log g c =
    let steps_are = c.steps_of_issue-steps.ensures
    ∙ ap (λ m. issue_steps m c.args.home c.args.version.now) c.node-node.ensures.value in
    c.in_default.ensures.log
    ∙ ap (λ ss. with_entries c.args.ledger.now (map untold ss)) steps_are

pub returns-clause-share : goal.returns-clause-share
returns-clause-share g c =
    let steps_are = c.steps_of_issue-steps.ensures
    ∙ ap (λ m. issue_steps m c.args.home c.args.version.now) c.node-node.ensures.value in
    c.in_default.ensures.share ∙ ap (with_steps c.args.share.now) steps_are

pub returns-in_err-add-clause-part : goal.returns-in_err-add-clause-part
returns-in_err-add-clause-part g c =
    part_renamed (world_after (steps_of c.args.ledger.now.log)) c.args.version.now.key
    c.args.part.now
    c.add.new.self c.in_err-add.ensures.err (ap (λ v. v.items) c.in_err-add.ensures.places)
    c.requires.part

pub returns-in-Err-clause-part : goal.returns-in-Err-clause-part
returns-in-Err-clause-part g c =
    let key = c.args.version.now.key in
    let node_is = ap (λ (v : Version). v.dot.node)
    (c.in_ok-copy.ensures.value ∙ c.requires.next.is_made) ∙ sym c.node-node.ensures.value in
    let made = ap (λ m. m.items) c.in-Err.ensures.made in
    subst (λ (a : Account). IsPart (world_after (steps_of a.log)) key
    (Some c.remove_last.new.self)) (sym c.in-Err.ensures.err.0)
    (part_renamed (world_after (steps_of c.args.ledger.now.log)) key c.args.part.now
    c.remove_last.new.self
    (removed_again c.args.part.now.made.items c.hold_at.new.part.made.items
    c.remove_last.new.self.made.items c.in_ok-copy.copy c.node-node.result node_is
    (ap (λ ms. list_at ms c.in_ok-copy.copy.dot.node) made ∙ c.in_ok-add.ensures.own)
    (λ n apart. ap (λ ms. list_at ms n) made ∙ c.in_ok-add.ensures.others n apart)
    c.remove_last.ensures.own
    c.remove_last.ensures.others)
    (ap (λ v. v.items) c.remove_last.ensures.places
    ∙ (c.in-Err.ensures.stay ∙ ap (λ v. v.items) c.in_ok-add.ensures.places)) c.requires.part)

pub returns-clause-part : goal.returns-clause-part
returns-clause-part g c =
    let layout = layout_of g.J.Naming.ring g.J.Naming.n in
    let log = c.args.ledger.now.log in
    let node = c.args.share.now.node in
    let v = c.args.version.now in
    let copy_is = c.in_ok-copy.ensures.value in
    let row_is = c.in_ok-row.ensures.ok ∙ ap row_alone c.in_ok-try_clone.ensures.value in
    let steps_are = c.steps_of_issue-steps.ensures
    ∙ ap (λ m. issue_steps m c.args.home v) c.node-node.ensures.value in
    let new : KeyPart = c.hold_at.new.part in
    let placed = new.places.items in
    let copy = c.in_ok-copy.copy in
    let made = ap (λ m. m.items) c.in_default.ensures.made in
    let own : made_by new copy.dot.node ≡ made_by c.args.part.now copy.dot.node ++ copy ∷ [] =
    ap (λ ms. list_at ms copy.dot.node) made ∙ c.in_ok-add.ensures.own in
    let others : (n : ℕ) → n ≢ copy.dot.node → made_by new n ≡ made_by c.args.part.now n =
    λ n apart. ap (λ ms. list_at ms n) made ∙ c.in_ok-add.ensures.others n apart in
    let is : IsHeldAt c.args.part.now.places.items node c.args.home (row_alone v) placed =
    subst (λ (hs : List Holding). IsHeldAt hs node c.args.home (row_alone v) placed)
    (ap (λ v. v.items) c.in_ok-add.ensures.places)
    (subst (λ r. IsHeldAt c.add.new.self.places.items node c.args.home r placed) row_is
    c.in_default.ensures.places) in
    subst (λ (a : Account). IsPart (world_after (steps_of a.log)) v.key (Some new))
    (sym c.in_default.ensures.log)
    (subst (λ (ss : List Step). IsPart (world_after (steps_of (log ++ map untold ss))) v.key
    (Some new)) (sym steps_are)
    (issue_part layout log c.requires.legal node c.args.home v c.requires.next
    c.requires.room c.requires.may_hold c.args.part.now new c.requires.part
    (rw copy_is at own) (rw copy_is at others)
    is.held is.holder_is is.home_is is.key_is is.merged is.placed))
