-- What the book vouched for is issued, so no dot is named. Else it is what the check tells.
use Rattle.std.proofs.Common.{◌↔◌, ◌+◌, ◌<◌, refl, subst, length, arith}
use Rattle.std.specs.Result.{IsErrOf, OnOk}
use Rattle.dy_dots.specs.declared.dots.Dot.{Dot}
use Rattle.dy_dots.specs.declared.faults.Fault.TheVariants.{NotIssued, StepsFull}
use Rattle.dy_siblings.specs.Siblings.{Siblings}
use Rattle.dy_core.specs.Worlds.{AreMadeOf}
use Rattle.dy_index.specs.Readings.{IsLeastNotIssued}
use Rattle.dy_index.proofs.Incoming.{none_least}
use Rattle.dy_book.specs.Books.{BookParts, HasRoom, LacksRoom, world_of}
use Rattle.dy_book.proofs.Incoming.{full_not_named}
use Rattle.dy_book.proofs.books.Book.check_lent.Goals as goal

-- nobody vouches for it
pub returns-in_default-clause-ok : goal.returns-in_default-clause-ok
returns-in_default-clause-ok g c =
    let b = c.args.self.now in
    subst (λ (r : Siblings). OnOk c.check_hold.result
    (AreMadeOf (world_of b) r.key r.versions × HasRoom b 1)) c.row.ensures c.check_hold.ensures.ok

pub returns-in_default-clause-not_issued : goal.returns-in_default-clause-not_issued
returns-in_default-clause-not_issued g c =
    subst (λ (r : Siblings). (d : Dot) → IsErrOf c.check_hold.result (NotIssued d)
    ↔ IsLeastNotIssued (world_of c.args.self.now).versions r.versions d) c.row.ensures
    c.check_hold.ensures.not_issued

pub returns-in_default-clause-steps_full : goal.returns-in_default-clause-steps_full
returns-in_default-clause-steps_full g c =
    let b = c.args.self.now in
    subst (λ (r : Siblings). IsErrOf c.check_hold.result StepsFull
    ↔ (AreMadeOf (world_of b) r.key r.versions × LacksRoom b 1)) c.row.ensures
    c.check_hold.ensures.steps_full

-- the book vouched for it
pub returns-then-steps_left-lt1-clause-steps_full
    : goal.returns-then-steps_left-lt1-clause-steps_full
returns-then-steps_left-lt1-clause-steps_full g c =
    let few : c.args.self.now.options.steps_limit < length c.args.self.now.log + 1 =
    subst (λ (b : BookParts). b.options.steps_limit < length b.log + 1) c.learn_issued.ensures.book
    (omega (arith, c.steps_left.ensures, c.if-steps_left-lt1.true)) in
    ((λ e. (c.learn_issued.ensures.issued, few)), (λ both. refl))

pub returns-then-steps_left-lt1-clause-not_issued
    : goal.returns-then-steps_left-lt1-clause-not_issued
returns-then-steps_left-lt1-clause-not_issued g c =
    let row = c.args.incoming.now in
    λ d. (
      (λ e. absurd (full_not_named d e)),
      (λ least. absurd (none_least (world_of c.args.self.now) row.key row.versions d
          c.learn_issued.ensures.issued least)),
    )

pub returns-clause-not_issued : goal.returns-clause-not_issued
returns-clause-not_issued g c =
    let row = c.args.incoming.now in
    λ d. (
      (λ e. absurd (cc)),
      (λ least. absurd (none_least (world_of c.args.self.now) row.key row.versions d
          c.learn_issued.ensures.issued least)),
    )
