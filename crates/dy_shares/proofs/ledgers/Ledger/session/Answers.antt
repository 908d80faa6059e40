use Rattle.std.proofs.Common.{List, ◌+◌, sym, subst}
use Rattle.dy_core.specs.Worlds.{layout_of}
use Rattle.dy_shares.specs.declared.entries.Done.{Done}
use Rattle.dy_shares.specs.inside.Parts.{IsLedger}
use Rattle.dy_shares.proofs.Accounts.{ledger_opened}
use Rattle.dy_shares.proofs.ledgers.Ledger.session.Goals as goal

-- the roll has an empty seat more
pub invariant_of-self : goal.invariant_of-self
invariant_of-self g c =
    let l = c.self.inside in
    let i = c.self.invariant in
    let layout = layout_of g.J.Naming.ring g.J.Naming.n in (
      i.0,
      subst (λ (roll : List (List Done)). IsLedger g.J.Naming.ring.nodes layout l.steps l.acks.items (l.sessions + 1) l.chronicle roll) (sym c.open-share.ensures.roll)
          (ledger_opened g.J.Naming.ring.nodes layout l.steps l.acks.items l.sessions l.chronicle l.roll i.1),
    )
