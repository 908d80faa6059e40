use Rattle.std.proofs.Common.{◌≡◌, ℕ, true, false, List, Some, Ok, Err, sym, ap, ◌∙◌, refl}
use Rattle.serde_json.specs.Data.{Data, Members}
use Rattle.serde_json.specs.Find.{as_object}
use Rattle.dy_dots.specs.declared.faults.Fault.TheVariants.{ScriptSyntax}
use Rattle.dy_script.specs.Members.{allow_only, knows}
use Rattle.dy_script.proofs.KnownKeys.{knows_keys}
use Rattle.dy_script.proofs.members.Members.allow_only.Goals as goal

knows_all : (k : ℕ) (names : List (List ℕ)) (d : Data) (ms : Members) → Some ms ≡ as_object d → knows names ms ≡ true → Ok tt ≡ allow_only k names d
unfolding allow_only
knows_all k names d ms o e = rw (sym o) (rw e refl)

knows_not : (k : ℕ) (names : List (List ℕ)) (d : Data) (ms : Members) → Some ms ≡ as_object d → knows names ms ≡ false → Err (ScriptSyntax k) ≡ allow_only k names d
unfolding allow_only
knows_not k names d ms o e = rw (sym o) (rw e refl)

pub returns-then-has_only : goal.returns-then-has_only
returns-then-has_only c =
    let s = c.args.self.now in
    knows_all _ _ _ _ c.in-Some.ensures (sym (knows_keys c.args.names.now c.in-Some.members.now) ∙ sym c.has_only.ensures ∙ c.if-has_only.true)

pub returns-else-has_only : goal.returns-else-has_only
returns-else-has_only c =
    let s = c.args.self.now in
    ap Err c.fault-else-has_only.ensures ∙ knows_not _ _ _ _ c.in-Some.ensures (sym (knows_keys c.args.names.now c.in-Some.members.now) ∙ sym c.has_only.ensures ∙ c.if-has_only.false)
