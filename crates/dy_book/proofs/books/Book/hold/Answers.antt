-- The check's refusals are those of the hold. Past it, memory alone may be wanting.
use Rattle.std.proofs.Common.{◌↔◌, Err, subst}
use Rattle.std.specs.Result.{IsErrOf}
use Rattle.dy_dots.specs.declared.faults.Fault.{Fault}
use Rattle.dy_dots.specs.declared.faults.Fault.TheVariants.{NotIssued, StepsFull}
use Rattle.dy_core.specs.Worlds.{AreMadeOf}
use Rattle.dy_book.specs.Books.{BookParts, LacksRoom, world_of}
use Rattle.dy_index.specs.Readings.{IsLeastNotIssued}
use Rattle.dy_book.proofs.Incoming.{told_as}
use Rattle.dy_book.proofs.books.Book.hold.Goals as goal

pub returns-in-Err-clause-not_issued : goal.returns-in-Err-clause-not_issued
returns-in-Err-clause-not_issued g c = λ d.
    let row = c.args.incoming.now in
    let f = c.in-Err.fault in
    told_as f (NotIssued d) (IsLeastNotIssued (world_of c.args.self.now).versions row.versions d)
    (subst (λ (b : BookParts). IsErrOf {T = Unit {0}} {E = Fault} (Err f) (NotIssued d)
    ↔ IsLeastNotIssued (world_of b).versions row.versions d) c.agree.ensures.book
    (c.in-Err.ensures.not_issued d))

pub returns-in-Err-clause-steps_full : goal.returns-in-Err-clause-steps_full
returns-in-Err-clause-steps_full g c =
    let row = c.args.incoming.now in
    let f = c.in-Err.fault in
    told_as f StepsFull
    (AreMadeOf (world_of c.args.self.now) row.key row.versions × LacksRoom c.args.self.now 1)
    (subst (λ (b : BookParts). IsErrOf {T = Unit {0}} {E = Fault} (Err f) StepsFull
    ↔ (AreMadeOf (world_of b) row.key row.versions × LacksRoom b 1)) c.agree.ensures.book
    c.in-Err.ensures.steps_full)
