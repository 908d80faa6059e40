-- The index is that of the book before the hold where memory was refused, and of the book after it
-- where the part was written back.
use Rattle.std.proofs.Common.{List, None, Some, IsSome}
use Rattle.std.proofs.Common.{refl, sym, ap, ◌∙◌, subst}
use Rattle.std.specs.Option.{option_copied_mut}
use Rattle.std.proofs.lemmas.Bool.{true≢false}
use Rattle.dy_core.specs.Worlds.{AreMadeOf}
use Rattle.dy_core.specs.Logs.{world_after}
use Rattle.dy_shares.specs.Shares.{Account, steps_of}
use Rattle.dy_shares.specs.declared.entries.Entry.{Entry}
use Rattle.dy_book.specs.Books.{BookParts, HasRoom}
use Rattle.dy_index.specs.Indexes.{IsPart, part_at}
use Rattle.dy_book.proofs.Bookkeeping.{book_reindexed, book_rewritten, hold_book}
use Rattle.dy_index.proofs.Parting.{empty_where_unknown}
use Rattle.dy_book.proofs.books.Book.hold_issued.Goals as goal

-- ---- memory was refused for the part of a row without a version

pub invariant_of-self : goal.invariant_of-self
invariant_of-self g c =
    let b = c.self.inside in
    book_reindexed g.J.Naming.ring g.J.Naming.n g.J.Naming.r b.ledger.log
    b.options b.versions b.keys.entries c.self.invariant
    c.make_part_of.new.keys.entries c.make_part_of.ensures.same

-- ---- a key of which nothing is known has no version, and a row without one has a part

pub unreachable-requires : goal.unreachable-requires
unreachable-requires g c =
    let b = c.self.inside in
    let row = c.args.incoming.now in
    let w = world_after (steps_of b.ledger.log) in
    let none = sym c.get_mut.ensures.value ∙ ap option_copied_mut c.in_default.is in
    let part : IsPart w row.key None =
    subst (λ k. IsPart w k None) c.key.ensures
    (subst (IsPart w c.key.result.now) none
    (c.make_part_of.ensures.same w c.self.invariant.index c.key.result.now)) in
    let made : AreMadeOf w row.key row.versions =
    subst (λ (l : List Entry). AreMadeOf (world_after (steps_of l)) row.key row.versions)
    (ap (λ (s : BookParts). s.log) (sym c.self.view_is)) c.requires.issued in
    let there = c.in-Ok.ensures.has (empty_where_unknown w row.key row.versions made part) in
    let there_at = subst (λ k. IsSome (part_at c.make_part_of.new.keys.entries k))
    (sym c.key.ensures) there in
    true≢false (sym (subst IsSome none there_at))

-- ---- the part of the key

pub hold_in-requires-clause-part : goal.hold_in-requires-clause-part
hold_in-requires-clause-part g c =
    let w = world_after (steps_of c.self.inside.ledger.log) in
    let there = sym c.get_mut.ensures.value ∙ ap option_copied_mut c.in-Some.is in
    subst (λ k. IsPart w k (Some c.in-Some.part.now)) c.key.ensures
    (subst (IsPart w c.key.result.now) there
    (c.make_part_of.ensures.same w c.self.invariant.index c.key.result.now))

pub hold_in-requires-clause-issued : goal.hold_in-requires-clause-issued
hold_in-requires-clause-issued g c =
    let row = c.args.incoming.now in
    subst (λ (l : List Entry). AreMadeOf (world_after (steps_of l)) row.key row.versions)
    (ap (λ (s : BookParts). s.log) (sym c.self.view_is)) c.requires.issued

-- it was refused
pub invariant_of-self-in-Err-hold_in : goal.invariant_of-self-in-Err-hold_in
invariant_of-self-in-Err-hold_in g c =
    let b = c.self.inside in
    let book = book_reindexed g.J.Naming.ring g.J.Naming.n g.J.Naming.r b.ledger.log
    b.options b.versions b.keys.entries c.self.invariant
    c.make_part_of.new.keys.entries c.make_part_of.ensures.same in
    let present = subst IsSome (sym (ap option_copied_mut c.in-Some.is) ∙ c.get_mut.ensures.value)
    refl in
    book_rewritten g.J.Naming.ring g.J.Naming.n g.J.Naming.r b.ledger.log b.options
    b.versions c.make_part_of.new.keys.entries book
    c.key.result.now c.args.incoming.now.key c.key.ensures c.hold_in.new.part
    (c.get_mut.follows.lender c.hold_in.new.part).entries
    ((c.get_mut.follows.holds c.hold_in.new.part).3 present).0
    c.hold_in.new.ledger.log
    (ap (λ (a : Account). a.log) c.in-Err-hold_in.ensures.err.0)
    c.hold_in.ensures.part

-- it is held
pub invariant_of-self-2 : goal.invariant_of-self-2
invariant_of-self-2 g c =
    let b = c.self.inside in
    let row = c.args.incoming.now in
    let node = c.args.share.now.node in
    let book = book_reindexed g.J.Naming.ring g.J.Naming.n g.J.Naming.r b.ledger.log
    b.options b.versions b.keys.entries c.self.invariant
    c.make_part_of.new.keys.entries c.make_part_of.ensures.same in
    let made = subst (λ (l : List Entry). AreMadeOf (world_after (steps_of l)) row.key row.versions)
    (ap (λ (s : BookParts). s.log) (sym c.self.view_is)) c.requires.issued in
    let room = subst (λ s. HasRoom s 1) (sym c.self.view_is) c.requires.room in
    let log_is = ap (λ (a : Account). a.log) c.in-Ok-hold_in.ensures.log in
    let present = subst IsSome (sym (ap option_copied_mut c.in-Some.is) ∙ c.get_mut.ensures.value)
    refl in
    hold_book g.J.Naming.ring g.J.Naming.n g.J.Naming.r b.ledger.log b.options b.versions
    c.make_part_of.new.keys.entries book
    node c.args.home row made c.requires.may_hold room
    c.key.result.now c.key.ensures c.hold_in.new.part
    (c.get_mut.follows.lender c.hold_in.new.part).entries
    ((c.get_mut.follows.holds c.hold_in.new.part).3 present).0
    c.hold_in.new.ledger.log log_is c.hold_in.ensures.part
