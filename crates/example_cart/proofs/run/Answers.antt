use Rattle.std.proofs.lemmas.Result.{IfOk-weaker}
use Rattle.example_cart.proofs.run.Goals as goal

-- what the audit lists as acknowledged is covered by the stores
pub returns-then-by_workers-clause-covered : goal.returns-then-by_workers-clause-covered
returns-then-by_workers-clause-covered g c = IfOk-weaker c.with_workers.result _ _
    (λ done stores. stores.covered) c.with_workers.ensures.stores

pub returns-clause-covered : goal.returns-clause-covered
returns-clause-covered g c = IfOk-weaker c.with_clients.result _ _ (λ done stores. stores.covered)
    c.with_clients.ensures.stores

-- the sessions of a closed cluster read their own writes
pub returns-then-by_workers-clause-own_writes : goal.returns-then-by_workers-clause-own_writes
returns-then-by_workers-clause-own_writes g c = IfOk-weaker c.with_workers.result _ _
    (λ done ran. (
      ran.tellings,
      ran.closed,
      c.session_guarantees.ensures.own_writes _ _ _ ran.tellings
          done.closed ran.closed,
    ))
    c.with_workers.ensures.closed

pub returns-clause-own_writes : goal.returns-clause-own_writes
returns-clause-own_writes g c = IfOk-weaker c.with_clients.result _ _
    (λ done ran. (
      ran.tellings,
      ran.closed,
      c.session_guarantees.ensures.own_writes _ _ _ ran.tellings
          done.closed ran.closed,
    ))
    c.with_clients.ensures.closed

-- and nothing comes back to them that was deleted
pub returns-then-by_workers-clause-deleted : goal.returns-then-by_workers-clause-deleted
returns-then-by_workers-clause-deleted g c = IfOk-weaker c.with_workers.result _ _
    (λ done ran. (
      ran.tellings,
      ran.closed,
      c.session_guarantees.ensures.deleted _ _ _ ran.tellings
          done.closed ran.closed,
    ))
    c.with_workers.ensures.closed

pub returns-clause-deleted : goal.returns-clause-deleted
returns-clause-deleted g c = IfOk-weaker c.with_clients.result _ _
    (λ done ran. (
      ran.tellings,
      ran.closed,
      c.session_guarantees.ensures.deleted _ _ _ ran.tellings
          done.closed ran.closed,
    ))
    c.with_clients.ensures.closed
