-- What the bytes name is let through where it is allowed and is written as the same bytes again.
use Rattle.std.proofs.Common.{ap, ◌∙◌, sym, inl, inr, refl, ◌⊎◌}
use Rattle.dy_dots.specs.Spelling.{runs_text}
use Rattle.dy_dots.specs.inside.Reading.{all_allowed, read_runs}
use Rattle.dy_dots.proofs.Sizes.{allowed_kept}
use Rattle.dy_dots.proofs.Readings.{not_dash, found_empty, refused_unread, refused_unfit, refused_other, found_runs, no_true}
use Rattle.dy_dots.proofs.contexts.Context.read_text.Goals as goal

pub returns-then-eq-clause-found : goal.returns-then-eq-clause-found
returns-then-eq-clause-found c = found_empty c.args.text.now c.new.result c.new.ensures (sym c.eq.ensures ∙ c.if-eq.true)

on_right : (A B C P : Type 0) → A ⊎ (B × C) → (C → P) → A ⊎ (B × P)
on_right A B C P (inl a) f = inl a
on_right A B C P (inr p) f = inr (p.0, f p.1)

pub returns-in-Err-clause-refused : goal.returns-in-Err-clause-refused
returns-in-Err-clause-refused c =
    on_right _ _ _ _ c.in-Err.ensures.errors (λ none.
    refused_unread c.args.text.now (not_dash _ (sym c.eq.ensures ∙ c.if-eq.false)) (ap read_runs (sym c.as_bytes.ensures.value) ∙ none))

pub returns-then-not-are_allowed-clause-refused : goal.returns-then-not-are_allowed-clause-refused
returns-then-not-are_allowed-clause-refused c =
    inr (
      refl,
      refused_unfit c.args.text.now c.in-Ok.runs.items (not_dash _ (sym c.eq.ensures ∙ c.if-eq.false))
          (ap read_runs (sym c.as_bytes.ensures.value) ∙ c.in-Ok.ensures.found)
          (ap (all_allowed 0 0 100000) (sym c.as_slice.ensures) ∙ sym c.are_allowed.ensures ∙ c.if-not-are_allowed.true),
    )

pub returns-then-not-branch-clause-refused : goal.returns-then-not-branch-clause-refused
returns-then-not-branch-clause-refused c =
    inr (
      refl,
      refused_other c.args.text.now c.in-Ok.runs.items (not_dash _ (sym c.eq.ensures ∙ c.if-eq.false))
          (ap read_runs (sym c.as_bytes.ensures.value) ∙ c.in-Ok.ensures.found)
          (λ same. no_true (sym c.if-not-branch.true
          ∙ c.in_ok-is_text_of.ensures.1 (ap runs_text c.as_slice-2.ensures ∙ same))),
    )

pub invariant_of-result : goal.invariant_of-result
invariant_of-result c =
    allowed_kept c.in-Ok.runs.items (ap (all_allowed 0 0 100000) (sym c.as_slice.ensures) ∙ sym c.are_allowed.ensures ∙ c.if-not-are_allowed.false)

pub returns-clause-found : goal.returns-clause-found
returns-clause-found c =
    found_runs c.args.text.now c.in-Ok.runs.items (ap (all_allowed 0 0 100000) (sym c.as_slice.ensures) ∙ sym c.are_allowed.ensures ∙ c.if-not-are_allowed.false)
    (sym (c.in_ok-is_text_of.ensures.0 c.if-not-branch.false) ∙ ap runs_text c.as_slice-2.ensures)
