use Rattle.std.proofs.Common.{◌≡◌, List, [], ◌∷◌, ◌++◌, ◌+◌, None, rules, refl, sym, subst}
use Rattle.dy_core.specs.Worlds.{layout_of}
use Rattle.dy_core.specs.declared.steps.Step.TheVariants.{Fetch}
use Rattle.dy_shares.specs.declared.entries.Entry.{Entry}
use Rattle.dy_shares.specs.Shares.{SessionStays, steps_of}
use Rattle.dy_shares.specs.Trails.{AreKept}
use Rattle.dy_shares.specs.inside.Parts.{entries_of, IsLedger}
use Rattle.dy_shares.proofs.Accounts.{ledger_free}
use Rattle.dy_shares.proofs.Additions.{fetch_seat, fetch_owned, untold_stay}
use Rattle.dy_shares.proofs.Keeping.{kept_grown}
use Rattle.dy_shares.proofs.ledgers.Ledger.fetch_step.Goals as goal

-- log and count grow alike, and the acks and the roll stay
pub invariant_of-self : goal.invariant_of-self
invariant_of-self g c =
    let l = c.self.inside in
    let i = c.self.invariant in
    let nodes = g.J.Naming.ring.nodes in
    let layout = layout_of g.J.Naming.ring g.J.Naming.n in
    let ss = Fetch c.args.place c.args.key.now ∷ [] in
    let more = ledger_free nodes layout l.steps l.acks.items l.sessions l.chronicle l.roll i.1 None ss (fetch_seat nodes c.args.place c.args.key.now) (fetch_owned nodes l.sessions c.args.place c.args.key.now) (tt, tt) refl in
    let told : c.write.new.chronicle ≡ l.chronicle ++ entries_of None ss = search rules in
    let count : c.in-Ok.count ≡ l.steps + 1 = search rules in
    let grown = c.in-Ok.ensures.kept in
    let kept = kept_grown l.trail.items grown.0 c.write.new.trail.items l.chronicle None ss grown.1 i.0.1 (subst (λ x. AreKept grown.0 (x ∷ [])) c.fetch.ensures grown.2) in (
      (i.0.0, subst (λ (es : List Entry). AreKept c.write.new.trail.items (steps_of es)) (sym told) kept),
      subst (λ n. IsLedger nodes layout n l.acks.items l.sessions c.write.new.chronicle l.roll) (sym count)
          (subst (λ (es : List Entry). IsLedger nodes layout (l.steps + 1) l.acks.items l.sessions es l.roll) (sym told) more),
    )

-- a fetch tells no session anything
pub returns-in-Ok-clause-sessions : goal.returns-in-Ok-clause-sessions
returns-in-Ok-clause-sessions g c session =
    let l = c.self.inside in
    let ss = Fetch c.args.place c.args.key.now ∷ [] in
    let told : c.write.new.chronicle ≡ l.chronicle ++ entries_of None ss = search rules in
    subst (λ (es : List Entry). SessionStays c.args.self.now.log es session) (sym told)
    (subst (λ a. SessionStays a.log (l.chronicle ++ entries_of None ss) session) c.self.view_is
    (untold_stay l.chronicle ss session))
