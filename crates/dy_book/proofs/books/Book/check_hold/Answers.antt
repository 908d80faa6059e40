-- Each refusal excludes the other: a least dot that is not issued, or else too few steps left.
use Rattle.std.proofs.Common.{◌+◌, ◌<◌, Err, refl, ap, subst, length, arith}
use Rattle.dy_dots.specs.declared.faults.Fault.TheVariants.{NotIssued}
use Rattle.dy_index.specs.Readings.{IsLeastNotIssued}
use Rattle.dy_book.specs.Books.{world_of}
use Rattle.dy_index.proofs.Incoming.{one_least, none_least}
use Rattle.dy_book.proofs.Incoming.{same_named, full_not_named}
use Rattle.dy_book.proofs.books.Book.check_hold.Goals as goal

pub returns-in-Some-clause-not_issued : goal.returns-in-Some-clause-not_issued
returns-in-Some-clause-not_issued g c =
    let rows = c.args.incoming.now.versions in
    let vs = (world_of c.args.self.now).versions in
    λ d. (
      (λ e. subst (IsLeastNotIssued vs rows) (same_named c.in-Some.dot d e) c.in-Some.ensures),
      (λ other. ap (λ x. Err (NotIssued x)) (one_least vs rows c.in-Some.dot d c.in-Some.ensures other)),
    )

pub returns-then-steps_left-lt1-clause-steps_full
    : goal.returns-then-steps_left-lt1-clause-steps_full
returns-then-steps_left-lt1-clause-steps_full g c =
    let few : c.args.self.now.options.steps_limit < length c.args.self.now.log + 1 =
    omega (arith, c.steps_left.ensures, c.if-steps_left-lt1.true) in
    ((λ e. (c.in_default.ensures, few)), (λ both. refl))

pub returns-then-steps_left-lt1-clause-not_issued
    : goal.returns-then-steps_left-lt1-clause-not_issued
returns-then-steps_left-lt1-clause-not_issued g c =
    let row = c.args.incoming.now in
    λ d. (
      (λ e. absurd (full_not_named d e)),
      (λ least. absurd (none_least (world_of c.args.self.now) row.key row.versions d c.in_default.ensures least)),
    )

pub returns-clause-not_issued : goal.returns-clause-not_issued
returns-clause-not_issued g c =
    let row = c.args.incoming.now in
    λ d. (
      (λ e. absurd (cc)),
      (λ least. absurd (none_least (world_of c.args.self.now) row.key row.versions d c.in_default.ensures least)),
    )
