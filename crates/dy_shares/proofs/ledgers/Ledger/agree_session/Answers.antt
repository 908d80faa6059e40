use Rattle.std.proofs.Common.{◌≡◌, List, refl, sym, ap, subst}
use Rattle.std.specs.List.{All}
use mathlib.Core.Option.{some}
use lib.ListN.{get_elem?}
use Rattle.dy_core.specs.Worlds.{layout_of}
use Rattle.dy_shares.specs.Shares.{AreSpent, SessionBelongsTo, SessionPart, GetTold, GetMatches, steps_of}
use Rattle.dy_shares.specs.inside.Parts.{done_acks}
use Rattle.dy_shares.proofs.Accounts.{session_belongs}
use Rattle.dy_shares.proofs.Later.{gets_later, spents_later}
use Rattle.dy_shares.proofs.ledgers.Ledger.agree_session.Goals as goal

-- the share agrees with its seat of the roll, and its gets matched at its front
pub returns-clause-belongs : goal.returns-clause-belongs
returns-clause-belongs g c =
    let l = c.self.inside in
    let s = c.share.inside in
    let i = c.share.invariant.0 in
    let part : SessionPart = record { session = s.number; acks = done_acks s.share.part; spent = s.spent.items; gets = s.gets.items } in
    let at = subst (λ k. get_elem? l.roll k ≡ some s.share.part) i.seat_is c.compare.ensures.agree in
    let told : List GetTold = c.args.share.now.gets in
    let gets = gets_later c.front.result.now l.chronicle g.J.Naming.r told c.learn.ensures.begins c.front.ensures.gets in
    let kept = subst (λ gs. All (GetMatches (steps_of l.chronicle) g.J.Naming.r) gs) (sym (ap (λ x. x.gets) c.share.view_is)) gets in
    let now = c.args.share.now in
    let spents = spents_later c.front.result.now l.chronicle now.acks now.spent c.learn.ensures.begins c.front.ensures.spent in
    let spent = subst (λ (x : SessionPart). AreSpent (steps_of l.chronicle) x.acks x.spent) (sym c.share.view_is) spents in
    subst (λ a. SessionBelongsTo a.log g.J.Naming.r c.args.share.now) c.self.view_is
    (subst (SessionBelongsTo l.chronicle g.J.Naming.r) c.share.view_is
    (session_belongs g.J.Naming.ring.nodes (layout_of g.J.Naming.ring g.J.Naming.n) l.steps l.acks.items l.sessions l.chronicle l.roll c.self.invariant.1 g.J.Naming.r part (record { part = s.share.part; seat_has = at; is_out = c.compare.ensures.is_out; acks_are = refl; spent_are = spent; gets_match = kept; in_turn = i.in_turn })))
