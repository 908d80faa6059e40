use Rattle.std.proofs.Common.{◌-◌, length, Some, refl, sym, ap, ◌∙◌, arith}
use Rattle.std.proofs.lemmas.Option.{slice_get_read}
use Rattle.dy_shares.proofs.Keeping.{kept_many}
use Rattle.dy_book.proofs.Reading.{logged_at}
use Rattle.dy_book.proofs.histories.History.step.Goals as goal

-- the trail is as long as the log
pub index-kept-requires : goal.index-kept-requires
index-kept-requires c =
    let h = c.requires.within in
    let many = kept_many c.args.self.now.trail.items h.0 h.1.kept in
    let len = c.args.self.now.trail.ok.0 in
    omega (arith, many, len, h.2, c.requires.from_one)

pub step_of-requires : goal.step_of-requires
step_of-requires c =
    let h = c.requires.within in
    let trail = c.args.self.now.trail.items in
    let many = kept_many trail h.0 h.1.kept in
    let k = c.index-kept.result.now in
    let at = c.args.at - 1 in
    let f = logged_at c.args.self.now.keys.entries h.1.layout h.0 h.1.legal h.1.index trail h.1.kept
    at k
    (slice_get_read trail (length trail) at k refl
    (omega (arith, many, h.2, c.requires.from_one)) c.index-kept.ensures) in
    record { logged = (f.0, f.2, f.3) }

pub returns-clause-ok : goal.returns-clause-ok
returns-clause-ok c = λ steps is.
    let h = c.requires.within in
    let trail = c.args.self.now.trail.items in
    let many = kept_many trail h.0 h.1.kept in
    let k = c.index-kept.result.now in
    let at = c.args.at - 1 in
    let f = logged_at c.args.self.now.keys.entries is.layout steps is.legal is.index trail is.kept
    at k
    (slice_get_read trail (length trail) at k refl
    (omega (arith, many, h.2, c.requires.from_one)) c.index-kept.ensures) in
    f.1 ∙ ap Some (sym (c.in_ok-step.ensures.ok f.0 f.2 f.3))
