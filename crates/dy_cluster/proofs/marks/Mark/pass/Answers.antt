-- the mark moves behind the log of the book
use Rattle.std.proofs.Common.{◌∙◌, ap, arith, length, subst, sym}
use Rattle.dy_book.specs.Books.{BookParts}
use Rattle.dy_shares.specs.Shares.{steps_of}
use Rattle.dy_shares.specs.Trails.{AreKept}
use Rattle.dy_cluster.proofs.Marking.{kept_as_many, kept_no_fewer, moved}
use Rattle.dy_cluster.proofs.marks.Mark.pass.Goals as goal

pub rest_of-requires : goal.rest_of-requires
rest_of-requires g c =
    let trail = c.trail-trail.result.now in
    let all = subst (λ (b : BookParts). AreKept trail (steps_of b.log)) c.learn.ensures.book
    c.trail-trail.ensures in
    omega (
      arith,
      c.self.invariant ∙ ap length c.self.view_is,
      kept_no_fewer trail c.args.self.now c.args.book.now.log c.learn.ensures.begins all,
    )

pub invariant_of-self : goal.invariant_of-self
invariant_of-self g c =
    kept_as_many c.trail-trail.result.now c.learn.new.book.log c.trail-trail.ensures
    ∙ sym (ap length c.front.ensures)

pub returns-clause-ok : goal.returns-clause-ok
returns-clause-ok g c =
    let trail = c.trail-trail.result.now in
    let all = subst (λ (b : BookParts). AreKept trail (steps_of b.log)) c.learn.ensures.book
    c.trail-trail.ensures in
    moved trail c.in_ok-kept.kept.items c.rest_of.result.now c.args.self.now c.args.book.now.log
    c.front.result c.self.inside.steps c.learn.ensures.begins all
    (c.self.invariant ∙ ap length c.self.view_is) c.rest_of.ensures c.in_ok-kept.ensures.ok
    (c.front.ensures ∙ ap (λ (b : BookParts). b.log) c.learn.ensures.book)
