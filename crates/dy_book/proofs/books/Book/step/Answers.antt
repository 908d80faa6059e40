use Rattle.std.proofs.Common.{◌≡◌, ◌-◌, length, slice_get, Some, refl, sym, ap, ◌∙◌, subst, arith}
use Rattle.std.proofs.lemmas.Option.{slice_get_read}
use Rattle.dy_core.specs.Worlds.{layout_of}
use Rattle.dy_shares.specs.Shares.{steps_of}
use Rattle.dy_shares.proofs.Keeping.{kept_many}
use Rattle.dy_shares.proofs.Owners.{steps_of-length}
use Rattle.dy_book.proofs.Reading.{logged_at}
use Rattle.dy_book.proofs.books.Book.step.Goals as goal

-- the trail is as long as the log
pub bounds-trail-at : goal.bounds-trail-at
bounds-trail-at g c =
    let log = c.self.inside.ledger.log in
    let many = kept_many c.trail-trail.result.now (steps_of log) c.trail-trail.ensures in
    let steps = steps_of-length log in
    let same = ap (λ b. length b.log) c.self.view_is in
    omega (arith, many, steps, same, c.requires.within, c.requires.from_one)

pub step_of-requires : goal.step_of-requires
step_of-requires g c =
    let log = c.self.inside.ledger.log in
    let trail = c.trail-trail.result.now in
    let many = kept_many trail (steps_of log) c.trail-trail.ensures in
    let steps = steps_of-length log in
    let same = ap (λ b. length b.log) c.self.view_is in
    let k = c.index-trail-at.result in
    let at = c.args.at - 1 in
    let f = logged_at c.self.inside.keys.entries (layout_of g.J.Naming.ring g.J.Naming.n)
    (steps_of log) c.self.invariant.legal c.self.invariant.index trail c.trail-trail.ensures at k
    (slice_get_read trail (length trail) at k refl
    (omega (arith, many, steps, same, c.requires.within, c.requires.from_one)) c.index-trail-at.is)
    in
    record { logged = (f.0, f.2, f.3) }

pub returns-clause-ok : goal.returns-clause-ok
returns-clause-ok g c =
    let log = c.self.inside.ledger.log in
    let trail = c.trail-trail.result.now in
    let many = kept_many trail (steps_of log) c.trail-trail.ensures in
    let steps = steps_of-length log in
    let same = ap (λ b. length b.log) c.self.view_is in
    let k = c.index-trail-at.result in
    let at = c.args.at - 1 in
    let f = logged_at c.self.inside.keys.entries (layout_of g.J.Naming.ring g.J.Naming.n)
    (steps_of log) c.self.invariant.legal c.self.invariant.index trail c.trail-trail.ensures at k
    (slice_get_read trail (length trail) at k refl
    (omega (arith, many, steps, same, c.requires.within, c.requires.from_one)) c.index-trail-at.is)
    in
    subst (λ b. slice_get (steps_of b.log) at ≡ Some c.in_ok-step.step) c.self.view_is
    (f.1 ∙ ap Some (sym (c.in_ok-step.ensures.ok f.0 f.2 f.3)))
