-- A pass is whole: what was listed was handed over, hint by hint.
use Rattle.std.proofs.Common.{ℕ, List, refl, sym, ◌∙◌, ap, subst, arith}
use Rattle.dy_siblings.specs.Siblings.{Siblings}
use Rattle.dy_node.specs.Nodes.{AreForHomes}
use Rattle.dy_transport.specs.Told.{Told}
use Rattle.dy_reads.specs.Rules.{IsReadOut}
use Rattle.dy_handoff.specs.Passes.{listed}
use Rattle.dy_handoff.specs.inside.Settling.{IsUnderWay}
use Rattle.dy_handoff.proofs.Handovers.{listed_is, pass_is, way_start}
use Rattle.dy_handoff.proofs.passes.pass.Goals as goal

pub hand_over_all-requires : goal.hand_over_all-requires
hand_over_all-requires g c =
    let old = g.T.Transport.told c.args.transport.now in
    let mid = g.T.Transport.told c.offer.new.self in
    let start = g.T.Transport.told c.find_none.new.transport in
    let hints = c.in_ok-hints.hints in
    let is = listed_is c.args.node hints old mid start c.requires.fresh_tries c.requires.fresh_asks c.requires.fresh_replies c.in_ok-hints.ensures.told c.find_none.ensures in
    record {
      way = subst (λ (t : Told g.row.J.Denot). IsUnderWay t (record { offers = 0; stored = 0; released = 0 })) (sym is) (way_start c.args.node old.room hints);
      out = subst (λ (t : Told g.row.J.Denot). IsReadOut t) (sym is) (refl, λ k lt. absurd (omega arith));
      for_homes = (let P : List (ℕ × Siblings) → Type 0 = λ hs. AreForHomes g.J.Naming.ring g.J.Naming.n hs in subst P (sym c.deref.ensures.value) c.in_ok-hints.ensures.for_homes);
    }

pub returns-clause-ok : goal.returns-clause-ok
returns-clause-ok g c =
    let old = g.T.Transport.told c.args.transport.now in
    let mid = g.T.Transport.told c.offer.new.self in
    let start = g.T.Transport.told c.find_none.new.transport in
    let new = g.T.Transport.told c.hand_over_all.new.transport in
    let hints = c.in_ok-hints.hints in
    let done = c.hand_over_all.ensures in
    let is = listed_is c.args.node hints old mid start c.requires.fresh_tries c.requires.fresh_asks c.requires.fresh_replies c.in_ok-hints.ensures.told c.find_none.ensures in
    pass_is c.args.node hints c.deref.result.now start new _ (is ∙ ap (λ n. listed c.args.node hints n) (sym (ap (λ t. t.room) is))) done.room c.deref.ensures.value done.way done.turns done.settles done.out
