-- The ack has the last number of the log, so it is later than all that the session was told.
use Rattle.std.proofs.Common.{◌≡◌, ℕ, ◌+◌, max, List, [], ◌∷◌, ◌++◌, Some, length, length-append, map, arith, rules, sym, ap, ◌∙◌, subst}
use Rattle.std.proofs.lemmas.List.{append_assoc, map-append}
use mathlib.Core.List.{IsPrefix}
use Rattle.dy_core.specs.declared.steps.Step.TheVariants.{Ack}
use Rattle.dy_shares.specs.Shares.{Account, AckTold, AreOwned, ReceiptParts, SessionPart, SessionStays, ack_at, told_to, with_ack, with_entries}
use Rattle.dy_shares.specs.inside.Parts.{Held, IsSessionShare, done_acks, entries_of, numbered}
use Rattle.dy_shares.proofs.Fronts.{prefix_length}
use Rattle.dy_shares.proofs.Accounts.{acks_grown}
use Rattle.dy_shares.proofs.Additions.{ack_owned, told_stay}
use Rattle.dy_shares.proofs.Sessions.{session_acked}
use Rattle.dy_shares.proofs.ledgers.Ledger.ack_step.Goals as goal

-- it is the session's, whose seat is open
pub append-requires-clause-owned : goal.append-requires-clause-owned
append-requires-clause-owned g c = λ within.
    let nodes = g.J.Naming.ring.nodes in
    let sessions = c.self.inside.sessions in
    let s = c.share.inside in
    subst (λ x. AreOwned nodes sessions (entries_of (Some s.number) (x ∷ []))) (sym c.ack.ensures)
    (ack_owned nodes sessions s.number s.share.index c.args.key.now c.args.dot c.args.w c.share.invariant.0.seat_is within)

-- the share of the roll has the ack more, and the session's front takes in the log
pub invariant_of-share-2 : goal.invariant_of-share-2
invariant_of-share-2 g c =
    let s = c.share.inside in
    let i = c.share.invariant.0 in
    let nodes = g.J.Naming.ring.nodes in
    let r = g.J.Naming.r in
    let step = Ack c.args.key.now c.args.dot c.args.w in
    let log = c.args.self.now.log in
    let at : ℕ = length log + 1 in
    let old : SessionPart = record { session = s.number; acks = done_acks s.share.part; spent = s.spent.items; gets = s.gets.items } in
    let receipts = c.args.receipts.now.items in
    let same : c.learn.new.self ≡ c.args.self.now.log = search rules in
    let index : c.append.new.share.index ≡ s.share.index = ap (λ (h : Held). h.index) c.in-Ok-append.ensures.share in
    let part : c.append.new.share.part ≡ s.share.part ++ numbered at (step ∷ []) =
    ap (λ (h : Held). h.part) c.in-Ok-append.ensures.share
    ∙ (ap (λ x. s.share.part ++ numbered (length c.learn.new.self + 1) (x ∷ [])) c.ack.ensures
    ∙ ap (λ l. s.share.part ++ numbered (length l + 1) (step ∷ [])) same) in
    let acks = acks_grown s.share.part c.append.new.share.part at step part in
    let chronicle : c.self.inside.chronicle ≡ log = ap (λ (a : Account). a.log) (c.self.view_is ∙ c.agree_session.ensures.log) in
    let told : c.append.new.self ≡ with_entries c.args.self.now (entries_of (Some c.args.share.now.session) (step ∷ [])) = search rules in
    let entry = told_to c.args.share.now.session step in
    let number : c.self-2.inside.steps ≡ at =
    c.self-2.invariant.1.counted ∙ (ap (λ (a : Account). length a.log) (c.self-2.view_is ∙ told) ∙ length-append log (entry ∷ [])) in
    let latest : c.max-share-inside.result ≡ max s.since c.self-2.inside.steps = search rules in
    let front : c.front.result ≡ c.append.new.self.log = search rules in
    let more = c.join.ensures.other.0 in
    let long : log ++ entry ∷ more ≡ c.join.new.self =
    sym (append_assoc log (entry ∷ []) more) ∙ (ap (λ xs. xs ++ more) (sym (front ∙ ap (λ (a : Account). a.log) told)) ∙ c.join.ensures.other.1) in
    let before = prefix_length s.front c.self.inside.chronicle c.learn.ensures.begins in
    let begins = subst (λ xs. IsPrefix s.front xs) (sym long) c.join.ensures.own in
    let pushed : c.push_reserved.new.self.items ≡ s.spent.items ++ receipts ∷ [] = search rules in
    let latest_is = latest ∙ ap (max s.since) number in
    let acked = session_acked nodes r s.share.index s.since c.max-share-inside.result s.front log (entry ∷ more) old c.args.key.now c.args.dot c.args.w receipts i c.requires.ack latest_is begins (omega arith) (omega (arith, before, i.reached, ap length chronicle)) c.requires.hold in
    let told_as : List AckTold → List (List ReceiptParts) → SessionPart = λ xs rs. record { session = s.number; acks = xs; spent = rs; gets = s.gets.items } in
    let number_of = λ (a : AckTold). a.at in
    let numbered : c.push_reserved-2.new.self.items ≡ s.numbers.acks.items ++ c.self-2.inside.steps ∷ [] = search rules in
    let numbers = numbered
    ∙ (ap (λ n. s.numbers.acks.items ++ n ∷ []) number
    ∙ (ap (λ xs. xs ++ at ∷ []) c.share.invariant.1.acks_are
    ∙ sym (ap (map number_of) acks ∙ map-append number_of (done_acks s.share.part) (ack_at at step)))) in (
      subst (λ k. IsSessionShare nodes r k c.max-share-inside.result c.join.new.self (told_as (done_acks c.append.new.share.part) c.push_reserved.new.self.items)) (sym index)
          (subst (λ xs. IsSessionShare nodes r s.share.index c.max-share-inside.result c.join.new.self (told_as xs c.push_reserved.new.self.items)) (sym acks)
          (subst (λ rs. IsSessionShare nodes r s.share.index c.max-share-inside.result c.join.new.self (told_as (old.acks ++ ack_at at step) rs)) (sym pushed)
          (subst (λ xs. IsSessionShare nodes r s.share.index c.max-share-inside.result xs (with_ack old at step receipts)) long acked))),
      record { acks_are = numbers; fetches_are = c.share.invariant.1.fetches_are },
    )

-- the share has the ack more
pub returns-clause-share : goal.returns-clause-share
returns-clause-share g c =
    let s = c.share.inside in
    let step = Ack c.args.key.now c.args.dot c.args.w in
    let at : ℕ = length c.args.self.now.log + 1 in
    let same : c.learn.new.self ≡ c.args.self.now.log = search rules in
    let part : c.append.new.share.part ≡ s.share.part ++ numbered at (step ∷ []) =
    ap (λ (h : Held). h.part) c.in-Ok-append.ensures.share
    ∙ (ap (λ x. s.share.part ++ numbered (length c.learn.new.self + 1) (x ∷ [])) c.ack.ensures
    ∙ ap (λ l. s.share.part ++ numbered (length l + 1) (step ∷ [])) same) in
    let receipts = c.args.receipts.now.items in
    let pushed : c.push_reserved.new.self.items ≡ s.spent.items ++ receipts ∷ [] = search rules in
    let told_as : List AckTold → List (List ReceiptParts) → SessionPart = λ xs rs. record { session = s.number; acks = xs; spent = rs; gets = s.gets.items } in
    ap (λ xs. told_as xs c.push_reserved.new.self.items) (acks_grown s.share.part c.append.new.share.part at step part)
    ∙ (ap (told_as (done_acks s.share.part ++ ack_at at step)) pushed
    ∙ ap (λ q. with_ack q at step receipts) (c.share.view_is ∙ c.agree_session.ensures.share))

-- no other session was told
pub returns-clause-sessions : goal.returns-clause-sessions
returns-clause-sessions g c session apart =
    let told : c.append.new.self ≡ with_entries c.args.self.now (entries_of (Some c.args.share.now.session) ((Ack c.args.key.now c.args.dot c.args.w) ∷ [])) = search rules in
    subst (λ (a : Account). SessionStays c.args.self.now.log a.log session) (sym told)
    (told_stay c.args.self.now.log (Ack c.args.key.now c.args.dot c.args.w) c.args.share.now.session session apart)
