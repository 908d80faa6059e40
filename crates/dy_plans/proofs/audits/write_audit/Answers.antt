use Rattle.std.proofs.Common.{List, ℕ, subst}
use Rattle.std.proofs.KnownBytes.{Appends-trans}
use Rattle.std.specs.Io.KnownBytes.{Appends}
use Rattle.std.specs.List.{flat_map}
use Rattle.dy_core.specs.declared.holdings.Holding.{Holding}
use Rattle.dy_book.specs.declared.audits.AckedAt.{AckedAt}
use Rattle.dy_plans.specs.AuditLines.{acked_line, held_line, settled_lines}
use Rattle.dy_plans.proofs.audits.write_audit.Goals as goal

-- the four parts come one behind the other
pub returns-clause-written : goal.returns-clause-written
returns-clause-written g c =
    let contents = g.O.Write.contents in
    let first = contents c.write_held.new.out in
    let second = contents c.write_acked.new.out in
    let held : Appends (contents c.args.out.now) first
    (flat_map held_line c.args.audit.now.held.items) =
    subst (λ (hs : List Holding). Appends (contents c.args.out.now) first (flat_map held_line hs))
    c.as_slice.ensures.value c.in_ok-write_held.ensures.written in
    let acked : Appends first second
    (flat_map (acked_line c.args.w) c.args.audit.now.acked.items) =
    subst (λ (xs : List AckedAt). Appends first second (flat_map (acked_line c.args.w) xs))
    c.as_slice-2.ensures.value c.in_ok-write_acked.ensures in
    let third = contents c.write_wanted.new.out in
    let settled : Appends second third
    (settled_lines c.args.is_settled c.args.audit.now.settled.items) =
    subst (λ (ks : List (List ℕ)). Appends second third (settled_lines c.args.is_settled ks))
    c.as_slice-3.ensures.value c.in_ok-write_wanted.ensures in
    Appends-trans _ _ _ _ _
    (Appends-trans _ _ _ _ _ (Appends-trans _ _ _ _ _ held acked) settled)
    c.in_ok-write_end.ensures
