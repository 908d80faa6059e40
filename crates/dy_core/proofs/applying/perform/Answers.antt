-- Each step of the model is done in the lists that mean it: one lemma of Performing for each.
use Rattle.std.proofs.Common.{◌≡◌, ◌<◌, ◌+◌, false, sym, ap, ◌∙◌, subst}
use Rattle.std.proofs.lemmas.Result.{on_ok_weaker}
use Rattle.dy_core.specs.inside.Meanings.{last_in, named_in}
use Rattle.dy_core.specs.Orders.{ack_cmp, put}
use Rattle.dy_core.proofs.Performing.{room_is, fresh_is, issue_goes, agree_is, hold_goes, release_goes, fetch_goes, ack_goes}
use Rattle.dy_core.proofs.applying.perform.Goals as goal

pub next_version-requires-clause-room : goal.next_version-requires-clause-room
next_version-requires-clause-room c =
    let r = c.requires in
    subst (λ vs. last_in vs c.in-Issue.node c.in-Issue.key < 1000000) (sym c.as_slice-list.ensures.value)
    (room_is r.0 r.1 _ _ _ r.2 c.args.step.now r.3 _ _ _ _ c.in-Issue.is)

pub next_version-requires-clause-fresh : goal.next_version-requires-clause-fresh
next_version-requires-clause-fresh c =
    let r = c.requires in
    subst (λ vs. named_in vs c.in-Issue.key c.in-Issue.context (record { node = c.in-Issue.node; counter = last_in vs c.in-Issue.node c.in-Issue.key + 1 }) ≡ false)
    (sym c.as_slice-list.ensures.value)
    (fresh_is r.0 r.1 _ _ _ r.2 c.args.step.now r.3 c.in-Issue.node c.in-Issue.key c.in-Issue.context)

pub hold-requires : goal.hold-requires
hold-requires c = let r = c.requires in agree_is r.0 r.1 _ _ _ r.2 c.args.step.now r.3 _ _ c.in-Hold.is

pub returns-in_ok-push-in-Issue-clause-log : goal.returns-in_ok-push-in-Issue-clause-log
returns-in_ok-push-in-Issue-clause-log c = λ layout steps old allowed.
    let made = c.in_ok-version-in-Issue.ensures in
    issue_goes layout steps _ _ _ old c.args.step.now allowed _ _ _ _ c.in-Issue.is c.in_ok-version-in-Issue.version
    made.key
    made.node
    (made.counter ∙ ap (λ vs. last_in vs c.in-Issue.node c.in-Issue.key + 1) c.as_slice-list.ensures.value)
    (λ d. made.past d ∙ ap (λ vs. named_in vs c.in-Issue.key c.in-Issue.context d) c.as_slice-list.ensures.value)
    made.value
    _ c.in_ok-push-in-Issue.ensures.items

pub returns-in-Hold-clause-log : goal.returns-in-Hold-clause-log
returns-in-Hold-clause-log c =
    on_ok_weaker c.hold.result
    (λ held layout steps old allowed. hold_goes layout steps _ _ _ old c.args.step.now allowed _ _ c.in-Hold.is _ held)
    c.hold.ensures.ok

pub returns-in-Release-clause-log : goal.returns-in-Release-clause-log
returns-in-Release-clause-log c =
    on_ok_weaker c.release.result
    (λ left layout steps old allowed. release_goes layout steps _ _ _ old c.args.step.now allowed _ _ _ c.in-Release.is _ left)
    c.release.ensures.ok

pub returns-in_ok-key-in-Ack-clause-log : goal.returns-in_ok-key-in-Ack-clause-log
returns-in_ok-key-in-Ack-clause-log c =
    on_ok_weaker c.put.result
    (λ listed layout steps old allowed.
    ack_goes layout steps _ _ _ old c.args.step.now allowed _ _ _ c.in-Ack.is _
    (listed ∙ ap (λ k. put ack_cmp c.args.acked.now.items (record { key = k; dot = c.in-Ack.dot; w = c.in-Ack.w })) c.in_ok-key-in-Ack.ensures.value))
    c.put.ensures.ok

pub returns-in-Fetch-clause-log : goal.returns-in-Fetch-clause-log
returns-in-Fetch-clause-log c = λ layout steps old allowed.
    fetch_goes layout steps _ _ _ old c.args.step.now allowed _ _ c.in-Fetch.is
