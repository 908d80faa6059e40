-- The ledger says whether a share is missing, before memory is asked for.
use Rattle.std.proofs.Common.{◌≡◌, refl, sym, ap, ◌∙◌, subst}
use Rattle.dy_dots.specs.declared.faults.Fault.TheVariants.{OutOfMemory, SharesMissing}
use Rattle.dy_shares.specs.Shares.{HasAll, IsMissing}
use Rattle.dy_book.specs.Audits.{TellsNow}
use Rattle.dy_book.proofs.Ending.{not_both, faults_apart, if_first, if_refused}
use Rattle.dy_book.proofs.books.Book.close.Goals as goal

pub returns-then-lacks-clause-shares_missing : goal.returns-then-lacks-clause-shares_missing
returns-then-lacks-clause-shares_missing g c =
    let nodes = g.J.Naming.ring.nodes in
    let sessions = c.self.inside.ledger.sessions in (
      (λ same.
          subst (λ s. IsMissing nodes s c.args.nodes.items c.args.sessions.items)
          (ap (λ b. b.sessions) c.self.view_is)
          (subst (λ ss. IsMissing nodes sessions c.args.nodes.items ss) c.as_slice-2.ensures.value
          (subst (λ ps. IsMissing nodes sessions ps c.as_slice-2.result.now)
          c.as_slice.ensures.value c.if-lacks.ensures))),
      (λ missing. refl),
    )

pub returns-in-Err-clause-shares_missing : goal.returns-in-Err-clause-shares_missing
returns-in-Err-clause-shares_missing g c =
    let nodes = g.J.Naming.ring.nodes in
    let sessions = c.self.inside.ledger.sessions in
    let all : HasAll nodes c.args.self.sessions c.args.nodes.items c.args.sessions.items =
    subst (λ s. HasAll nodes s c.args.nodes.items c.args.sessions.items)
    (ap (λ b. b.sessions) c.self.view_is)
    (subst (λ ss. HasAll nodes sessions c.args.nodes.items ss) c.as_slice-2.ensures.value
    (subst (λ ps. HasAll nodes sessions ps c.as_slice-2.result.now) c.as_slice.ensures.value
    c.if-lacks.ensures)) in (
      (λ same. absurd (faults_apart (sym same ∙ c.in-Err.ensures.memory))),
      (λ missing. absurd (not_both nodes c.args.self.sessions c.args.nodes.items
          c.args.sessions.items missing all)),
    )

-- it was not missing, so it is not
pub returns-in-Ok-clause-shares_missing : goal.returns-in-Ok-clause-shares_missing
returns-in-Ok-clause-shares_missing g c =
    if_refused c.end_with.result (λ e. e.fault ≡ SharesMissing) _ c.end_with.ensures.shares_missing

pub returns-in-Ok-clause-only : goal.returns-in-Ok-clause-only
returns-in-Ok-clause-only g c =
    if_first c.end_with.result (λ e. e.fault ≡ SharesMissing) (λ e. e.fault ≡ OutOfMemory) _
    c.end_with.ensures.shares_missing

-- so whoever closes without a share is refused
pub returns-in-Ok-clause-missing : goal.returns-in-Ok-clause-missing
returns-in-Ok-clause-missing g c =
    let nodes = g.J.Naming.ring.nodes in
    let sessions = c.self.inside.ledger.sessions in
    let all : HasAll nodes c.args.self.sessions c.args.nodes.items c.args.sessions.items =
    subst (λ s. HasAll nodes s c.args.nodes.items c.args.sessions.items)
    (ap (λ b. b.sessions) c.self.view_is)
    (subst (λ ss. HasAll nodes sessions c.args.nodes.items ss) c.as_slice-2.ensures.value
    (subst (λ ps. HasAll nodes sessions ps c.as_slice-2.result.now) c.as_slice.ensures.value
    c.if-lacks.ensures)) in
    λ missing. absurd (not_both nodes c.args.self.sessions c.args.nodes.items
    c.args.sessions.items missing all)

-- the audit tells of the sessions that were handed in
pub end_with-requires : goal.end_with-requires
end_with-requires g c = record {
  tells =
      subst (λ ss. TellsNow c.args.self ss c.in-Ok.audit) c.as_slice-3.ensures.value
      c.in-Ok.ensures.ok;
}
