-- Both slices are the versions of their rows.
use Rattle.std.proofs.Common.{◌≡◌, ap, ◌∙◌, sym, subst, IfNone, Option, None, Some}
use Rattle.dy_siblings.specs.Siblings.{IsFollower}
use Rattle.dy_siblings.proofs.rows.Row.follower.Goals as goal

-- what holds, holds where there is nothing
absent : {X P : Type 0} (o : Option X) → P → IfNone o P
absent None p = p
absent (Some x) p = tt

pub returns-in_err-version-clause-none : goal.returns-in_err-version-clause-none
returns-in_err-version-clause-none c =
    absent c.from_residual.result (λ v f. c.in_err-version.ensures.none v
    (subst (λ a. IsFollower a c.as_slice-2.result.now v) (sym mine)
    (subst (λ b. IsFollower c.args.self.now.versions b v) (sym theirs) f)))
  where
    mine : c.as_slice.result.now ≡ c.args.self.now.versions
    mine = c.as_slice.ensures ∙ ap (λ s. s.versions) c.self.view_is

    theirs : c.as_slice-2.result.now ≡ c.args.other.now.versions
    theirs = c.as_slice-2.ensures ∙ ap (λ s. s.versions) c.other.view_is
