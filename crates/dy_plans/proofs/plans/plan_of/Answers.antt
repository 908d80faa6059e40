-- The ring is judged first, then the limits, and then the quorum.
use Rattle.std.proofs.Common.{ℕ, refl, subst, sym, ◌∙◌}
use Rattle.std.proofs.lemmas.Bool.{true≢false}
use Rattle.std.specs.Prelude.{Ok, Err}
use Rattle.dy_book.specs.Limits.{IsQuorum}
use Rattle.dy_book.specs.declared.options.Options.{Options}
use Rattle.dy_script.specs.Reading.{script_parts}
use Rattle.dy_plans.specs.Openings.{options_for}
use Rattle.dy_plans.proofs.Refusing.{limit_first, none_first, quorum_first, ring_first}
use Rattle.dy_plans.proofs.plans.plan_of.Goals as goal

-- the ring is refused
pub returns-in-Err-clause-first : goal.returns-in-Err-clause-first
returns-in-Err-clause-first c = (
  Err c.in-Err.fault,
  c.in-Err.ensures,
  ring_first c.in-Err.fault (options_for (script_parts c.args.script.now)),
)

-- a limit is
pub returns-in-Err-options_of-clause-first : goal.returns-in-Err-options_of-clause-first
returns-in-Err-options_of-clause-first c =
    let options = options_for (script_parts c.args.script.now) in (
      Ok c.in-Ok.ring,
      c.in-Ok.ensures,
      limit_first c.in-Ok.ring options _ c.in-Err-options_of.ensures.only
          (λ limits. true≢false (sym (c.in-Err-options_of.ensures.limits.1 limits))),
    )

-- the quorum does not fit the ring
pub returns-then-not-is_quorum-clause-first : goal.returns-then-not-is_quorum-clause-first
returns-then-not-is_quorum-clause-first c =
    let options = options_for (script_parts c.args.script.now) in
    let ring = c.in-Ok.ring in
    let asked = c.in-Ok-options_of.ensures.ok in
    let fits : IsQuorum options ring.nodes → IsQuorum c.in-Ok-options_of.options c.nodes.result = λ q.
    subst (λ (n : ℕ). IsQuorum c.in-Ok-options_of.options n) (sym c.nodes.ensures.value)
    (subst (λ (o : Options). IsQuorum o ring.nodes) (sym asked) q) in (
      Ok ring,
      c.in-Ok.ensures,
      quorum_first ring options (c.in-Ok-options_of.ensures.limits.0 refl)
          (λ q. true≢false (sym (c.is_quorum.ensures.1 (fits q)) ∙ c.if-not-is_quorum.true)),
    )

-- nothing is refused
pub returns-clause-first : goal.returns-clause-first
returns-clause-first c =
    let options = options_for (script_parts c.args.script.now) in
    let ring = c.in-Ok.ring in
    let asked = c.in-Ok-options_of.ensures.ok in
    let fits = subst (λ (o : Options). IsQuorum o ring.nodes) asked
    (subst (λ (n : ℕ). IsQuorum c.in-Ok-options_of.options n) c.nodes.ensures.value
    (c.is_quorum.ensures.0 c.if-not-is_quorum.false)) in (
      Ok ring,
      c.in-Ok.ensures,
      none_first ring options _ (c.in-Ok-options_of.ensures.limits.0 refl) fits,
    )
