-- What the audit lists was made before the ledger ended, of the same log; and the ledger says that
-- the shares are all.
use Rattle.std.proofs.Common.{refl, ap, subst}
use Rattle.dy_core.specs.Worlds.{layout_of}
use Rattle.dy_core.specs.Logs.{IsLegal, world_after}
use Rattle.dy_core.proofs.OverLogs.{acks_covered}
use Rattle.dy_shares.specs.Shares.{AreAll, IsMissing, steps_of}
use Rattle.dy_shares.specs.Trails.{AreKept}
use Rattle.dy_book.specs.Audits.{IsHistoryOf, account_of}
use Rattle.dy_book.specs.declared.histories.History.{History}
use Rattle.dy_index.specs.Indexes.{IsIndex}
use Rattle.dy_book.proofs.Telling.{told_as_held}
use Rattle.dy_book.proofs.books.Book.end_with.Goals as goal

pub returns-in-Ok-clause-exact : goal.returns-in-Ok-clause-exact
returns-in-Ok-clause-exact g c =
    let nodes = g.J.Naming.ring.nodes in
    let r = g.J.Naming.r in
    let layout = layout_of g.J.Naming.ring g.J.Naming.n in
    let parts = c.args.nodes.items in
    let tellings = c.args.sessions.items in
    let legal = subst (λ b. IsLegal layout (steps_of b.log)) c.self.view_is
    c.self.invariant.legal in
    let all = subst (λ a. AreAll nodes r a parts tellings)
    (ap account_of c.self.view_is) c.in-Ok.ensures.exact in
    let history : History = record { trail = c.in-Ok.trail; keys = c.self.inside.keys } in
    let is : IsHistoryOf history (steps_of c.args.self.log) = record {
      layout = layout;
      legal = legal;
      kept = subst (λ b. AreKept c.in-Ok.trail.items (steps_of b.log)) c.self.view_is
          c.in-Ok.ensures.trail;
      index = subst (λ b. IsIndex (world_after (steps_of b.log)) c.self.inside.keys.entries)
          c.self.view_is c.self.invariant.index;
    } in
    let now = c.requires.tells in
    record {
      all = all;
      tells = record {
        held = now.held;
        acked = now.acked;
        acks = now.acks;
        gets = now.gets;
        steps = now.steps;
        settled = now.settled;
        history = is;
        told = now.told;
      };
      held_shown = λ holder home key d.
          let told = told_as_held layout (steps_of c.args.self.log) legal c.args.audit.held.items
          now.held holder home key d in
          let shown = c.shares_say_all.ensures.held nodes r
          (account_of c.args.self) parts tellings all holder home key d in
          ((λ t. shown.0 (told.0 t)), (λ s. told.1 (shown.1 s)));
      acked_told = λ x.
          let listed = now.acked.acks.same x in
          let told = c.shares_say_all.ensures.acked nodes r
          (account_of c.args.self) parts tellings all x in
          ((λ t. told.0 (listed.0 t)), (λ s. listed.1 (told.1 s)));
      covered = acks_covered layout (steps_of c.args.self.log) legal;
    }

pub returns-in-Err-clause-shares_missing : goal.returns-in-Err-clause-shares_missing
returns-in-Err-clause-shares_missing g c = (
  refl,
  subst (λ s. IsMissing g.J.Naming.ring.nodes s c.args.nodes.items c.args.sessions.items)
      (ap (λ b. b.sessions) c.self.view_is) c.in-Err.ensures.shares_missing,
)
