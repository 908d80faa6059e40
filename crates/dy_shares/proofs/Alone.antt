-- A set of one dot is one run.
use Rattle.std.proofs.Common.{[], ◌∷◌, refl, sym, ◌∙◌, subst, inl, inr, ⊎_elim, arith}
use Rattle.std.proofs.lemmas.Bool.{cases_lt, or_cases, true≢false}
use Rattle.std.specs.FinSet as set
use Rattle.dy_dots.specs.Dots.{AreDots, DotSet, IsDot, dot_cmp, same_dot}
use Rattle.dy_dots.specs.Runs.{AreApart, AreRunsOf, StartsFrom, single}
use Rattle.dy_dots.specs.declared.dots.Dot.{Dot}
use Rattle.dy_dots.proofs.SameDots.{same_dot_is}
use Rattle.dy_dots.proofs.Sets.{in_insert, insert_is, runs_are}

-- the set that has this dot alone
abbrev pub one_dot : Dot → DotSet
one_dot d = set.insert set.empty d

starts : (d : Dot) → StartsFrom 0 0 (single d)
starts d = ⊎_elim inl (λ none. inr (omega (arith, none), omega arith)) (cases_lt 0 d.node)

apart : (d : Dot) → AreApart (single d ∷ [])
apart d = (starts d, omega arith, tt)

pub runs_of : (d : Dot) → AreRunsOf (single d ∷ []) (one_dot d)
runs_of d =
    runs_are (single d ∷ []) (single d ∷ []) (one_dot d) (apart d)
    (insert_is [] (single d ∷ []) d (λ q. refl)) refl

pub are_dots : (d : Dot) → IsDot d → AreDots (one_dot d)
are_dots d is e has =
    ⊎_elim
    (λ same. subst IsDot (same_dot_is d e same) is)
    (λ none. absurd (true≢false (sym none ∙ set.contains-empty dot_cmp e)))
    (or_cases (same_dot d e) (set.contains set.empty e) (sym (in_insert set.empty d e) ∙ has))
