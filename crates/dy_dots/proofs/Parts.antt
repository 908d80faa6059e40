-- Whether the dots of one list of runs are another's.
use Rattle.std.proofs.Common.{◌≡◌, ◌+◌, ◌<◌, ◌≤◌, Bool, true, false, ◌||◌, List, [], ◌∷◌, refl, sym, ap, ◌∙◌, inr, arith, subst}
use Rattle.std.proofs.lemmas.Bool.{true≢false}
use Rattle.std.proofs.lemmas.Bool.Decides.{nat_tests}
use Rattle.dy_dots.specs.Runs.{single}
use Rattle.dy_dots.specs.inside.Kinds.{covers_run, IsBelow, IsReached}
use Rattle.dy_dots.specs.Runs.{in_run, in_runs, RiseFrom, AreApart}
use Rattle.dy_dots.specs.inside.Kinds.{HaveAllOf}
use Rattle.dy_dots.specs.declared.dots.Dot.{Dot}
use Rattle.dy_dots.specs.declared.runs.Run.{Run}
use Rattle.dy_dots.proofs.Lists.{IsOutside, none_before, starts_zero, uncovered, covers_each, itself}
use Rattle.dy_dots.proofs.Sets.{or_either}

-- how far a comparison has come: what is left decides what was asked
abbrev pub Compares : List Run → List Run → List Run → List Run → Type 0
Compares rs others left right =
    AreApart left × AreApart right × (HaveAllOf left right → HaveAllOf rs others) × (HaveAllOf rs others → HaveAllOf left right)

apart_tail : (r : Run) (rs : List Run) → AreApart (r ∷ rs) → AreApart rs
apart_tail r [] rise = tt
apart_tail r (x ∷ xs) rise = (starts_zero x, rise.2.1, rise.2.2)

or_left : (a b : Bool) → a ≡ true → (a || b) ≡ true
or_left true b e = refl
or_left false b e = cc

or_right : (a b : Bool) → b ≡ true → (a || b) ≡ true
or_right true b e = refl
or_right false b e = e

-- a run that is covered needs no second look
pub compares_covered : (rs others left right : List Run) (x r : Run) (rest more : List Run) → Compares rs others left right → left ≡ x ∷ rest → right ≡ r ∷ more → covers_run x r ≡ true → Compares rs others left more
compares_covered rs others left right x r rest more c l_is r_is covers = (
  c.0,
  apart_tail r more (subst AreApart r_is c.1),
  λ all. c.2 (subst (HaveAllOf left) (sym r_is) (λ d e. or_either (in_run r d) (in_runs more d) _ e (held d) (all d))),
  λ asked d e. c.3 asked d (ap (λ l. in_runs l d) r_is ∙ or_right (in_run r d) _ e),
)
  where
    held : (d : Dot) → in_run r d ≡ true → in_runs left d ≡ true
    held d e = ap (λ l. in_runs l d) l_is ∙ or_left _ _ (covers_each x r d covers e)

before_end : (x : Run) (q : Dot) → in_run x q ≡ true → (q.node ≡ x.node) × (q.counter < x.last + 2)
before_end x q e = (grind (arith, nat_tests), grind (arith, nat_tests))

rise_after : (x r : Run) (more : List Run) → IsBelow x r → AreApart (r ∷ more) → RiseFrom x.node (x.last + 2) (r ∷ more)
rise_after x r more below apart = (below, apart.1, apart.2)

-- a run below all that are asked for has none of their dots
pub compares_below : (rs others left right : List Run) (x r : Run) (rest more : List Run) → Compares rs others left right → left ≡ x ∷ rest → right ≡ r ∷ more → IsBelow x r → Compares rs others rest right
compares_below rs others left right x r rest more c l_is r_is below = (
  apart_tail x rest (subst AreApart l_is c.0),
  c.1,
  λ all. c.2 (λ d e. ap (λ l. in_runs l d) l_is ∙ or_right (in_run x d) _ (all d e)),
  λ asked d e.
      or_either (in_run x d) (in_runs rest d) _ (ap (λ l. in_runs l d) (sym l_is) ∙ c.3 asked d e)
      (λ here. absurd (true≢false (sym e ∙ later d here)))
      (λ h. h),
)
  where
    later : (d : Dot) → in_run x d ≡ true → in_runs right d ≡ false
    later d here =
        let end = before_end x d here in
        none_before x.node (x.last + 2) right d (subst (RiseFrom x.node (x.last + 2)) (sym r_is) (rise_after x r more below (subst AreApart r_is c.1))) (inr end)

out_of : (rs others left right : List Run) (r : Run) (more : List Run) → Compares rs others left right → right ≡ r ∷ more → IsOutside left r → HaveAllOf rs others → ⊥
out_of rs others left right r more c r_is out asked =
    true≢false (sym (c.3 asked out.0 (ap (λ l. in_runs l out.0) r_is ∙ or_left _ _ out.1)) ∙ out.2)

-- with no run left one that is asked for is missing
pub compares_empty : (rs others left right : List Run) (r : Run) (more : List Run) → Compares rs others left right → left ≡ [] → right ≡ r ∷ more → HaveAllOf rs others → ⊥
compares_empty rs others left right r more c l_is r_is =
    let d : Dot = record { node = r.node; counter = r.first } in
    let valid : r.first ≤ r.last = (subst AreApart r_is c.1).1 in
    out_of rs others left right r more c r_is (d, itself r d refl refl valid, ap (λ l. in_runs l d) l_is)

-- and so is one that is reached and not covered
pub compares_missing : (rs others left right : List Run) (x r : Run) (rest more : List Run) → Compares rs others left right → left ≡ x ∷ rest → right ≡ r ∷ more → IsReached x r → covers_run x r ≡ false → HaveAllOf rs others → ⊥
compares_missing rs others left right x r rest more c l_is r_is reached fails =
    let d : Dot = record { node = r.node; counter = r.first } in
    let valid : r.first ≤ r.last = (subst AreApart r_is c.1).1 in
    let out : IsOutside (x ∷ rest) r = uncovered (x ∷ rest) 0 (single d) x r d (subst AreApart l_is c.0) refl (λ k lt. absurd (omega arith)) (omega arith) reached refl refl refl valid fails in
    out_of rs others left right r more c r_is (subst (λ l. IsOutside l r) (sym l_is) out)
