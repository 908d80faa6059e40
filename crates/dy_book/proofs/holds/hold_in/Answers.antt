-- The part is as before where the hold was refused, and has the merge at its place where not.
use Rattle.std.proofs.Common.{◌++◌, ◌∷◌, [], map, sym, ap, ◌∙◌, subst, List}
use Rattle.std.proofs.Common.{Some}
use Rattle.dy_core.specs.Worlds.{layout_of}
use Rattle.dy_core.specs.Steps.{place_for}
use Rattle.dy_core.specs.Logs.{world_after}
use Rattle.dy_core.specs.declared.steps.Step.{Step}
use Rattle.dy_core.specs.declared.steps.Step.TheVariants.{Hold}
use Rattle.dy_core.proofs.OverLogs.{log_sound}
use Rattle.dy_shares.specs.Shares.{Account, MayFollow, steps_of, untold}
use Rattle.dy_shares.specs.Shares.{with_entries, with_steps}
use Rattle.dy_index.specs.declared.parts.KeyPart.{KeyPart}
use Rattle.dy_index.specs.Lists.{list_at}
use Rattle.dy_index.specs.Indexes.{IsPart, made_by}
use Rattle.dy_book.proofs.Bookkeeping.{hold_receipts}
use Rattle.dy_index.proofs.OfKeys.{agree_at}
use Rattle.dy_book.proofs.Holding.{hold_allowed, hold_part}
use Rattle.dy_index.proofs.Indexing.{part_renamed}
use Rattle.dy_book.proofs.holds.hold_in.Goals as goal

pub hold_at-requires-clause-agree : goal.hold_at-requires-clause-agree
hold_at-requires-clause-agree g c =
    let layout = layout_of g.J.Naming.ring g.J.Naming.n in
    agree_at layout (world_after (steps_of c.args.ledger.now.log))
    (log_sound layout (steps_of c.args.ledger.now.log) c.requires.legal)
    c.args.share.now.node c.args.home c.args.row.now c.requires.issued
    (made_by c.args.part.now) c.args.part.now.places.items c.requires.part

pub hold_at-requires-clause-allowed : goal.hold_at-requires-clause-allowed
hold_at-requires-clause-allowed g c =
    let steps_are = ap (λ x. x ∷ []) c.hold.ensures
    ∙ ap (λ m. Hold (place_for m c.args.home) c.args.row.now ∷ []) c.node-holder.ensures.value in
    subst (MayFollow g.J.Naming.ring g.J.Naming.n c.args.ledger.now.log) (sym steps_are)
    (hold_allowed (layout_of g.J.Naming.ring g.J.Naming.n) c.args.ledger.now.log c.requires.legal
    c.args.share.now.node c.args.home c.args.row.now c.requires.issued c.requires.may_hold)

pub returns-in_err-hold_at-clause-part : goal.returns-in_err-hold_at-clause-part
returns-in_err-hold_at-clause-part g c =
    let new : KeyPart = c.hold_at.new.part in
    subst (λ (a : Account). IsPart (world_after (steps_of a.log)) c.args.row.now.key (Some new))
    (sym c.in_err-hold_at.ensures.err.0)
    (part_renamed (world_after (steps_of c.args.ledger.now.log)) c.args.row.now.key c.args.part.now
    new (λ n. ap (λ m. list_at m.items n) c.in_err-hold_at.ensures.made)
    c.in_err-hold_at.ensures.stay c.requires.part)

pub give_receipts-requires-clause-held : goal.give_receipts-requires-clause-held
give_receipts-requires-clause-held g c =
    let steps_are = ap (λ x. x ∷ []) c.hold.ensures
    ∙ ap (λ m. Hold (place_for m c.args.home) c.args.row.now ∷ []) c.node-holder.ensures.value in
    hold_receipts (layout_of g.J.Naming.ring g.J.Naming.n) c.args.ledger.now.log c.requires.legal
    c.args.share.now.node c.args.home c.args.row.now c.requires.issued c.requires.may_hold
    c.hold_at.new.ledger.log
    (ap (λ a. a.log) c.in_ok-hold_at.ensures.log
    ∙ ap (λ ss. c.args.ledger.now.log ++ map untold ss) steps_are)
    c.node-holder.result c.node-holder.ensures.value

pub returns-clause-log : goal.returns-clause-log
returns-clause-log g c =
    let steps_are = ap (λ x. x ∷ []) c.hold.ensures
    ∙ ap (λ m. Hold (place_for m c.args.home) c.args.row.now ∷ []) c.node-holder.ensures.value in
    c.in_ok-hold_at.ensures.log
    ∙ ap (λ ss. with_entries c.args.ledger.now (map untold ss)) steps_are

pub returns-clause-share : goal.returns-clause-share
returns-clause-share g c =
    let steps_are = ap (λ x. x ∷ []) c.hold.ensures
    ∙ ap (λ m. Hold (place_for m c.args.home) c.args.row.now ∷ []) c.node-holder.ensures.value in
    c.in_ok-hold_at.ensures.share ∙ ap (with_steps c.args.share.now) steps_are

pub returns-clause-part : goal.returns-clause-part
returns-clause-part g c =
    let layout = layout_of g.J.Naming.ring g.J.Naming.n in
    let log = c.args.ledger.now.log in
    let row = c.args.row.now in
    let is = c.in_ok-hold_at.ensures.places in
    let steps_are = ap (λ x. x ∷ []) c.hold.ensures
    ∙ ap (λ m. Hold (place_for m c.args.home) row ∷ []) c.node-holder.ensures.value in
    let new : KeyPart = c.hold_at.new.part in
    subst (λ (a : Account). IsPart (world_after (steps_of a.log)) row.key (Some new))
    (sym c.in_ok-hold_at.ensures.log)
    (subst (λ (ss : List Step). IsPart (world_after (steps_of (log ++ map untold ss))) row.key
    (Some new)) (sym steps_are)
    (hold_part layout log c.requires.legal c.args.share.now.node c.args.home row
    c.requires.issued
    c.requires.may_hold c.args.part.now new c.requires.part
    (λ n. ap (λ m. list_at m.items n) c.in_ok-hold_at.ensures.made)
    is.held is.holder_is is.home_is is.key_is is.merged is.placed))
