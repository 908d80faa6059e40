use Rattle.std.proofs.Common.{List, sym, subst}
use Rattle.std.proofs.lemmas.Bool.{true≢false}
use Rattle.dy_shares.specs.Shares.{IsMissing, SessionPart}
use Rattle.dy_cluster_tests.proofs.absences.close_twice.Goals as goal

-- a session is missing, so the close was refused
pub unreachable-requires : goal.unreachable-requires
unreachable-requires g c =
    true≢false (sym (c.in-Ok.ensures.missing (subst (λ (ps : List SessionPart). IsMissing
    g.J.Naming.ring.nodes c.args.resting.book.sessions c.args.resting.parts ps)
    c.as_slice.ensures.value c.if-not-lacks.ensures)))
