-- the audit is written, behind the steps that are left if they are wanted
use Rattle.std.proofs.Common.{◌≡◌, ◌++◌, [], List, ℕ, Bool, false, true, refl, rules, subst}
use Rattle.std.proofs.KnownBytes.{Appends-trans}
use Rattle.std.specs.Io.KnownBytes.{Appends}
use Rattle.dy_shares.specs.Shares.{steps_of}
use Rattle.dy_plans.specs.AuditLines.{audit_lines}
use Rattle.dy_serve.specs.Closings.{AreLeftIf}
use Rattle.dy_serve.proofs.closing.write_closing.Goals as goal

pub returns-then-not-with_steps-clause-written : goal.returns-then-not-with_steps-clause-written
returns-then-not-with_steps-clause-written g c read had =
    let contents = g.O.Write.contents in
    let script = c.args.script.now in
    let without : false ≡ c.args.with_steps = search rules in
    subst (λ (b : Bool). (rest : List ℕ) × AreLeftIf b (steps_of read) c.args.audit.now rest
    × Appends (contents c.args.out.now) (contents c.write_last.new.out)
    (rest ++ audit_lines script.w script.settled c.args.audit.now)) without
    ([], refl, c.in_ok-write_last.ensures.written)

pub returns-clause-written : goal.returns-clause-written
returns-clause-written g c read had =
    let contents = g.O.Write.contents in
    let script = c.args.script.now in
    let wanted : true ≡ c.args.with_steps = search rules in
    let left = c.in_ok-write_left.ensures.written read had in
    subst (λ (b : Bool). (rest : List ℕ) × AreLeftIf b (steps_of read) c.args.audit.now rest
    × Appends (contents c.args.out.now) (contents c.write_last-2.new.out)
    (rest ++ audit_lines script.w script.settled c.args.audit.now)) wanted
    (left.0, left.1, Appends-trans _ _ _ left.0 _ left.2 c.in_ok-write_last-2.ensures.written)
