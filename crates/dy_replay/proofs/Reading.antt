-- A step that is read by its number, from 1, stands at its place, from 0.
use Rattle.std.proofs.Common.{◌≡◌, ℕ, ◌+◌, ◌-◌, List, get_or, slice_get, Some, sym, subst, arith}
use Rattle.std.proofs.lemmas.Option.{get_or_from_slice_get}
use Rattle.dy_core.specs.declared.steps.Step.{Step}

pub read_next : (steps : List Step) (at : ℕ) (s : Step) → slice_get steps (at + 1 - 1) ≡ Some s → s ≡ get_or steps at s
read_next steps at s read =
    let number : at + 1 - 1 ≡ at = omega arith in
    sym (get_or_from_slice_get steps at s s (subst (λ i. slice_get steps i ≡ Some s) number read))
