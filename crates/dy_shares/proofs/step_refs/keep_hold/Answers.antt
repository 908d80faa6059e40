-- The row that is lent has the dots that are kept.
use Rattle.std.proofs.Common.{◌≡◌, ◌<◌, ◌≤◌, List, [], ◌∷◌, length, get_or, refl, sym, ap, ◌∙◌, subst, arith}
use Rattle.dy_dots.specs.Runs.{AreRunsOf}
use Rattle.dy_dots.specs.declared.runs.Run.{Run}
use Rattle.dy_siblings.specs.Siblings.{own_dots}
use Rattle.dy_siblings.specs.declared.versions.Version.{Version}
use Rattle.dy_shares.specs.Trails.{HasRuns}
use Rattle.dy_shares.proofs.Alone.{are_dots, one_dot, runs_of}
use Rattle.dy_shares.proofs.step_refs.keep_hold.Goals as goal

-- a list of one is what stands at its first place
only_one : {X : Type 0} (xs : List X) (x : X) → 1 ≤ length xs → length xs < 2 → x ≡ get_or xs 0 x → xs ≡ x ∷ []
only_one [] x least below is = absurd (omega (arith, least))
only_one (y ∷ []) x least below is = ap (λ z. z ∷ []) (sym is)
only_one (y ∷ (z ∷ xs)) x least below is = absurd (omega (arith, below))

-- of one version
pub returns-in-len1-clause-ok : goal.returns-in-len1-clause-ok
returns-in-len1-clause-ok c =
    let row = c.args.row.now in
    let v : Version = c.version-item.result in
    let one : row.versions ≡ v ∷ [] =
    sym c.versions-versions.ensures.value
    ∙ only_one c.versions-versions.result.now v c.in-len1.len_at_least c.in-len1.len_below c.version-item.is in (
      row,
      refl,
      subst (λ run. HasRuns row c.in_ok-key.key (run ∷ [])) (sym c.run_of-run.ensures.value)
          (record {
            dots = one_dot c.dot.result;
            has = record {
              key_is = sym (c.in_ok-key.ensures.value ∙ c.key.ensures);
              dots_are = ap own_dots one ∙ ap one_dot (sym c.dot.ensures.value);
              siblings = c.versions-versions.ensures.valid;
            };
            runs_of = runs_of c.dot.result;
            are_dots = are_dots c.dot.result c.run_of-run.ensures.valid;
          }),
    )

pub returns-in-len1-runs-clause-ok : goal.returns-in-len1-runs-clause-ok
returns-in-len1-runs-clause-ok c =
    let row = c.args.row.now in
    let one = only_one c.runs.result.now c.run-item.result c.in-len1-runs.len_at_least c.in-len1-runs.len_below c.run-item.is in (
      row,
      refl,
      record {
        dots = c.in_ok-dots.dots;
        has = record {
          key_is = sym (c.in_ok-key.ensures.value ∙ c.key.ensures);
          dots_are = sym c.in_ok-dots.ensures.ok;
          siblings = c.versions-versions.ensures.valid;
        };
        runs_of = subst (λ (rs : List Run). AreRunsOf rs c.in_ok-dots.dots) one c.runs.ensures.runs;
        are_dots = c.runs.ensures.valid;
      },
    )
