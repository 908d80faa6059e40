-- The receipts are of one key and dot, and hold as the log stands: so they make a cover, and the
-- ack is allowed; the key and the dot are those of the first of them.
use Rattle.std.proofs.Common.{◌≡◌, ◌++◌, ◌∷◌, [], ◌+◌, ◌≤◌, length, sym, ap}
use Rattle.std.proofs.Common.{◌∙◌, subst, arith, slice_get, Some}
use Rattle.std.specs.List.{All}
use Rattle.std.specs.Option.{option_copied}
use Rattle.std.proofs.lemmas.List.Elements.{All-contains}
use Rattle.dy_dots.specs.declared.dots.Dot.{Dot}
use Rattle.dy_core.specs.Worlds.{layout_of}
use Rattle.dy_core.specs.Covers.{HasCover}
use Rattle.dy_core.specs.Logs.{world_after}
use Rattle.dy_core.specs.declared.steps.Step.TheVariants.{Ack}
use Rattle.dy_shares.specs.Shares.{Account, ReceiptParts, IsReceipt, since_of, steps_of, told_to}
use Rattle.dy_shares.specs.Shares.{with_ack}
use Rattle.dy_shares.specs.Shares.{with_entries as account_with}
use Rattle.dy_book.specs.Books.{AreOf, BookParts, with_entries}
use Rattle.dy_book.specs.inside.Kept.{IsBook}
use Rattle.dy_book.proofs.Bookkeeping.{ack_book, receipts_cover, first_of}
use Rattle.dy_book.proofs.Sinces.{since_within}
use Rattle.dy_book.proofs.books.Book.ack.Goals as goal

-- they make the ack, and hold where it is made
pub ack_step-requires-clause-ack : goal.ack_step-requires-clause-ack
ack_step-requires-clause-ack g c =
    let rs = c.args.receipts.now.items in
    let inside = first_of rs c.in-Some.first.now
    (subst (λ xs. slice_get xs 0 ≡ Some c.in-Some.first.now) c.deref.ensures.value
    (sym c.first.ensures.value ∙ ap option_copied c.in-Some.is)) in
    let own = c.requires.one_dot in
    let p = All-contains (λ (r : ReceiptParts). (r.key ≡ own.0) × (r.dot ≡ own.1)) rs
    c.in-Some.first.now own.2 inside in
    let of = subst (λ k. AreOf k c.dot.result rs)
    (sym (c.key.ensures ∙ p.0))
    (subst (λ (d : Dot). AreOf own.0 d rs) (sym (c.dot.ensures ∙ p.1)) own.2) in
    record {
      count_is = c.requires.count;
      of_dot = of;
      homes_distinct = c.requires.homes;
      holders_distinct = c.requires.holders;
    }

pub ack_step-requires-clause-hold : goal.ack_step-requires-clause-hold
ack_step-requires-clause-hold g c =
    let rs = c.args.receipts.now.items in
    subst (λ (a : Account). All (IsReceipt (steps_of a.log)) rs)
    (sym c.learn_receipts.ensures.log)
    (subst (λ xs. All (IsReceipt (steps_of c.agree_session.new.self.log)) xs)
    c.as_slice.ensures.value c.learn_receipts.ensures.hold)

pub ack_step-requires-clause-allowed : goal.ack_step-requires-clause-allowed
ack_step-requires-clause-allowed g c =
    let layout = layout_of g.J.Naming.ring g.J.Naming.n in
    let log = c.self.inside.ledger.log in
    let rs = c.args.receipts.now.items in
    let K = c.key.result.now in
    let D = c.dot.result in
    let inside = first_of rs c.in-Some.first.now
    (subst (λ xs. slice_get xs 0 ≡ Some c.in-Some.first.now) c.deref.ensures.value
    (sym c.first.ensures.value ∙ ap option_copied c.in-Some.is)) in
    let own = c.requires.one_dot in
    let p = All-contains (λ (r : ReceiptParts). (r.key ≡ own.0) × (r.dot ≡ own.1)) rs
    c.in-Some.first.now own.2 inside in
    let of = subst (λ k. AreOf k D rs) (sym (c.key.ensures ∙ p.0))
    (subst (λ (d : Dot). AreOf own.0 d rs) (sym (c.dot.ensures ∙ p.1)) own.2) in
    let hold = subst (λ (a : Account). All (IsReceipt (steps_of a.log)) rs)
    c.agree_session.ensures.log (subst (λ xs. All (IsReceipt (steps_of c.agree_session.new.self.log)) xs) c.as_slice.ensures.value c.learn_receipts.ensures.hold) in
    let cover = subst (HasCover layout (world_after (steps_of log)) K D) c.requires.count
    (receipts_cover layout (steps_of log) c.self.invariant.legal K D rs hold of c.requires.homes
    c.requires.holders) in
    subst (λ (a : Account).
    ((1 ≤ c.args.w) × (c.args.w ≤ g.J.Naming.n) × HasCover layout
    (world_after (steps_of a.log)) K D c.args.w) × Unit {0})
    (sym (c.learn_receipts.ensures.log ∙ c.agree_session.ensures.log))
    ((c.requires.some, c.requires.few, cover), tt)

pub invariant_of-self : goal.invariant_of-self
invariant_of-self g c =
    let b = c.self.inside in
    subst (λ (a : Account). IsBook g.J.Naming.ring g.J.Naming.n g.J.Naming.r a.log b.options
    b.versions b.keys.entries) (sym c.agree_session.ensures.log) c.self.invariant

pub invariant_of-self-2 : goal.invariant_of-self-2
invariant_of-self-2 g c =
    let b = c.self.inside in
    let rs = c.args.receipts.now.items in
    let K = c.key.result.now in
    let D = c.dot.result in
    let same = c.learn_receipts.ensures.log ∙ c.agree_session.ensures.log in
    let inside = first_of rs c.in-Some.first.now
    (subst (λ xs. slice_get xs 0 ≡ Some c.in-Some.first.now) c.deref.ensures.value
    (sym c.first.ensures.value ∙ ap option_copied c.in-Some.is)) in
    let own = c.requires.one_dot in
    let p = All-contains (λ (r : ReceiptParts). (r.key ≡ own.0) × (r.dot ≡ own.1)) rs
    c.in-Some.first.now own.2 inside in
    let of = subst (λ k. AreOf k D rs) (sym (c.key.ensures ∙ p.0))
    (subst (λ (d : Dot). AreOf own.0 d rs) (sym (c.dot.ensures ∙ p.1)) own.2) in
    let hold = subst (λ (a : Account). All (IsReceipt (steps_of a.log)) rs)
    c.agree_session.ensures.log (subst (λ xs. All (IsReceipt (steps_of c.agree_session.new.self.log)) xs) c.as_slice.ensures.value c.learn_receipts.ensures.hold) in
    let layout = layout_of g.J.Naming.ring g.J.Naming.n in
    let cover = subst (HasCover layout (world_after (steps_of b.ledger.log)) K D) c.requires.count
    (receipts_cover layout
    (steps_of b.ledger.log) c.self.invariant.legal K D rs hold of c.requires.homes
    c.requires.holders) in
    let few : length c.agree_session.new.self.log + 1 ≤ b.options.steps_limit =
    omega (arith, c.steps_left.ensures, c.if-steps_left-lt1.false) in
    let room = subst (λ (a : Account). length a.log + 1 ≤ b.options.steps_limit)
    c.agree_session.ensures.log few in
    let log_is = ap (λ a. a.log) c.in_ok-ack_step.ensures.log
    ∙ (λ i. (same i).log ++ told_to c.agree_session.new.share.session (Ack K D c.args.w) ∷ []) in
    ack_book g.J.Naming.ring g.J.Naming.n g.J.Naming.r b.ledger.log b.options b.versions
    b.keys.entries c.self.invariant
    c.agree_session.new.share.session K D c.args.w room
    (c.requires.some, c.requires.few, cover) c.ack_step.new.self.log log_is

pub returns-clause-log : goal.returns-clause-log
returns-clause-log g c = λ key d of.
    let b = c.self.inside in
    let rs = c.args.receipts.now.items in
    let same = c.learn_receipts.ensures.log ∙ c.agree_session.ensures.log in
    let inside = first_of rs c.in-Some.first.now
    (subst (λ xs. slice_get xs 0 ≡ Some c.in-Some.first.now) c.deref.ensures.value
    (sym c.first.ensures.value ∙ ap option_copied c.in-Some.is)) in
    let p = All-contains (λ (r : ReceiptParts). (r.key ≡ key) × (r.dot ≡ d)) rs c.in-Some.first.now
    of inside in
    let key_is = c.key.ensures ∙ p.0 in
    let dot_is = c.dot.ensures ∙ p.1 in
    let full : c.ack_step.new.self ≡ account_with b.ledger
    (told_to c.args.share.now.session (Ack key d c.args.w) ∷ []) =
    c.in_ok-ack_step.ensures.log
    ∙ (λ i. account_with (same i)
    (told_to (c.agree_session.ensures.share i).session
    (Ack (key_is i) (dot_is i) c.args.w) ∷ [])) in
    (λ i. record { log = (full i).log; sessions = (full i).sessions; options = b.options })
    ∙ ap (λ s. with_entries s (told_to c.args.share.now.session (Ack key d c.args.w) ∷ []))
    c.self.view_is

pub returns-clause-share : goal.returns-clause-share
returns-clause-share g c = λ key d of.
    let rs = c.args.receipts.now.items in
    let same = c.learn_receipts.ensures.log ∙ c.agree_session.ensures.log in
    let inside = first_of rs c.in-Some.first.now
    (subst (λ xs. slice_get xs 0 ≡ Some c.in-Some.first.now) c.deref.ensures.value
    (sym c.first.ensures.value ∙ ap option_copied c.in-Some.is)) in
    let p = All-contains (λ (r : ReceiptParts). (r.key ≡ key) × (r.dot ≡ d)) rs c.in-Some.first.now
    of inside in
    let key_is = c.key.ensures ∙ p.0 in
    let dot_is = c.dot.ensures ∙ p.1 in
    c.in_ok-ack_step.ensures.share
    ∙ ((λ i. with_ack (c.agree_session.ensures.share i) (length (same i).log + 1)
    (Ack (key_is i) (dot_is i) c.args.w) rs)
    ∙ ap (λ s. with_ack c.args.share.now (length s.log + 1) (Ack key d c.args.w) rs)
    c.self.view_is)

-- what the session was told is in the log
pub returns-clause-later : goal.returns-clause-later
returns-clause-later g c =
    subst (λ (b : BookParts). since_of c.args.share.now ≤ length b.log) c.self.view_is
    (since_within c.self.inside.ledger.log g.J.Naming.r c.args.share.now c.agree_session.ensures.belongs)

pub returns-then-steps_left-lt1-clause-later : goal.returns-then-steps_left-lt1-clause-later
returns-then-steps_left-lt1-clause-later g c =
    subst (λ (b : BookParts). since_of c.args.share.now ≤ length b.log) c.self.view_is
    (since_within c.self.inside.ledger.log g.J.Naming.r c.args.share.now c.agree_session.ensures.belongs)

pub returns-in_err-ack_step-clause-later : goal.returns-in_err-ack_step-clause-later
returns-in_err-ack_step-clause-later g c =
    subst (λ (b : BookParts). since_of c.args.share.now ≤ length b.log) c.self.view_is
    (since_within c.self.inside.ledger.log g.J.Naming.r c.args.share.now c.agree_session.ensures.belongs)
