-- Two lists of runs made one.
use Rattle.std.proofs.Common.{◌≡◌, ℕ, ◌+◌, ◌≤◌, Bool, true, false, ◌||◌, List, [], ◌∷◌, ◌++◌, refl, sym, ap, ◌∙◌, inl, inr, arith, subst}
use Rattle.std.proofs.lemmas.List.Folds.{list_any-append}
use Rattle.dy_dots.specs.inside.Kinds.{joined, IsBelow, IsReached, StartsBy, IsNextRun}
use Rattle.dy_dots.specs.Runs.{in_run, in_runs, StartsFrom, RiseFrom, AreApart}
use Rattle.dy_dots.specs.declared.dots.Dot.{Dot}
use Rattle.dy_dots.specs.declared.runs.Run.{Run}
use Rattle.dy_dots.proofs.Lists.{rise_earlier, in_joined, or_assoc, or_false}

rise_by : (n c : ℕ) (r : Run) (rs : List Run) → RiseFrom n c rs → StartsBy r rs → RiseFrom r.node r.first rs
rise_by n c r [] rise by = tt
rise_by n c r (x ∷ xs) rise by = (by, rise.1, rise.2)

-- what the next run of two lists is, and what the rest
abbrev pub Taken : ℕ → ℕ → List Run → List Run → Run → List Run → List Run → Type 0
Taken n c a b r a' b' =
    StartsFrom n c r × (r.first ≤ r.last) × RiseFrom r.node r.first a' × RiseFrom r.node r.first b'
    × ((d : Dot) → (in_run r d || (in_runs a' d || in_runs b' d)) ≡ (in_runs a d || in_runs b d))

or_second : (r a b : Bool) → (r || (a || b)) ≡ (a || (r || b))
or_second true true b = refl
or_second true false b = refl
or_second false a b = refl

pub taken : (n c : ℕ) (a b : List Run) (r : Run) (a' b' : List Run) → RiseFrom n c a → RiseFrom n c b → IsNextRun a b r a' b' → Taken n c a b r a' b'
taken n c a b r a' b' rise_a rise_b (inl p) =
    let front : RiseFrom n c (r ∷ a') = subst (RiseFrom n c) p.0 rise_a in (
      front.0,
      front.1,
      rise_earlier r.node r.first r.node (r.last + 2) a' (inr (refl, omega arith)) front.2,
      subst (RiseFrom r.node r.first) p.1 (rise_by n c r b rise_b p.2),
      λ d. sym (or_assoc (in_run r d) (in_runs a' d) (in_runs b' d)) ∙ ap (λ l. in_runs l d || in_runs b' d) (sym p.0) ∙ ap (λ l. in_runs a d || in_runs l d) (sym p.1),
    )
taken n c a b r a' b' rise_a rise_b (inr p) =
    let front : RiseFrom n c (r ∷ b') = subst (RiseFrom n c) p.0 rise_b in (
      front.0,
      front.1,
      subst (RiseFrom r.node r.first) p.1 (rise_by n c r a rise_a p.2),
      rise_earlier r.node r.first r.node (r.last + 2) b' (inr (refl, omega arith)) front.2,
      λ d. or_second (in_run r d) (in_runs a' d) (in_runs b' d) ∙ ap (λ l. in_runs a' d || in_runs l d) (sym p.0) ∙ ap (λ l. in_runs l d || in_runs b d) (sym p.1),
    )

rise_push : (n c : ℕ) (xs : List Run) (r s : Run) → RiseFrom n c (xs ++ r ∷ []) → IsBelow r s → s.first ≤ s.last → RiseFrom n c ((xs ++ r ∷ []) ++ s ∷ [])
rise_push n c [] r s rise below valid = (rise.0, rise.1, (below, valid, tt))
rise_push n c (x ∷ xs) r s rise below valid = (rise.0, rise.1, rise_push x.node (x.last + 2) xs r s rise.2 below valid)

rise_end : (n c : ℕ) (xs : List Run) (r : Run) → RiseFrom n c (xs ++ r ∷ []) → r.first ≤ r.last
rise_end n c [] r rise = rise.1
rise_end n c (x ∷ xs) r rise = rise_end x.node (x.last + 2) xs r rise.2

starts_like : (n c : ℕ) (r j : Run) → j.node ≡ r.node → j.first ≡ r.first → StartsFrom n c r → StartsFrom n c j
starts_like n c r j m k (inl p) = inl (omega arith)
starts_like n c r j m k (inr p) = inr (omega arith, omega arith)

rise_grow : (n c : ℕ) (xs : List Run) (r j : Run) → RiseFrom n c (xs ++ r ∷ []) → j.node ≡ r.node → j.first ≡ r.first → j.first ≤ j.last → RiseFrom n c (xs ++ j ∷ [])
rise_grow n c [] r j rise m k valid = (starts_like n c r j m k rise.0, valid, tt)
rise_grow n c (x ∷ xs) r j rise m k valid = (rise.0, rise.1, rise_grow x.node (x.last + 2) xs r j rise.2 m k valid)

in_push : (xs : List Run) (r : Run) (d : Dot) → in_runs (xs ++ r ∷ []) d ≡ (in_runs xs d || in_run r d)
in_push xs r d = list_any-append (λ z. in_run z d) xs (r ∷ []) ∙ ap (λ b. in_runs xs d || b) (or_false (in_run r d))

-- how far a union has come
abbrev pub Merges : List Run → Run → List Run → List Run → List Run → List Run → Type 0
Merges done r a' b' a b =
    AreApart (done ++ r ∷ []) × RiseFrom r.node r.first a' × RiseFrom r.node r.first b'
    × ((d : Dot) → (in_runs (done ++ r ∷ []) d || (in_runs a' d || in_runs b' d)) ≡ (in_runs a d || in_runs b d))

pub merges_first : (done a b : List Run) (r : Run) (a' b' : List Run) → done ≡ [] → AreApart a → AreApart b → IsNextRun a b r a' b' → Merges done r a' b' a b
merges_first done a b r a' b' none rise_a rise_b next =
    let t = taken 0 0 a b r a' b' rise_a rise_b next in
    subst (λ l. Merges l r a' b' a b) (sym none) (
      (t.0, t.1, tt),
      t.2,
      t.3,
      λ d. ap (λ x. x || (in_runs a' d || in_runs b' d)) (or_false (in_run r d)) ∙ t.4 d,
    )

pub merges_push : (done pushed : List Run) (r : Run) (a' b' a b : List Run) (s : Run) (a2 b2 : List Run) → Merges done r a' b' a b → IsNextRun a' b' s a2 b2 → IsBelow r s → pushed ≡ done ++ r ∷ [] → Merges pushed s a2 b2 a b
merges_push done pushed r a' b' a b s a2 b2 m next below is =
    let t = taken r.node r.first a' b' s a2 b2 m.1 m.2 next in
    subst (λ l. Merges l s a2 b2 a b) (sym is) (
      rise_push 0 0 done r s m.0 below t.1,
      t.2,
      t.3,
      λ d. ap (λ x. x || (in_runs a2 d || in_runs b2 d)) (in_push (done ++ r ∷ []) s d)
          ∙ or_assoc (in_runs (done ++ r ∷ []) d) (in_run s d) _
          ∙ ap (λ x. in_runs (done ++ r ∷ []) d || x) (t.4 d) ∙ m.3 d,
    )

meet : (r s : Run) → StartsFrom r.node r.first s → IsReached r s → (r.node ≡ s.node) × (r.first ≤ s.first) × (s.first ≤ r.last + 1)
meet r s (inl p) (inl q) = absurd (omega arith)
meet r s (inl p) (inr q) = absurd (omega arith)
meet r s (inr p) (inl q) = absurd (omega arith)
meet r s (inr p) (inr q) = (omega arith, omega arith, omega arith)

or_moved : (i r s t : Bool) → ((i || (r || s)) || t) ≡ ((i || r) || (s || t))
or_moved true r s t = refl
or_moved false true s t = refl
or_moved false false s t = refl

pub merges_join : (done : List Run) (r : Run) (a' b' a b : List Run) (s j : Run) (a2 b2 : List Run) → Merges done r a' b' a b → IsNextRun a' b' s a2 b2 → IsReached r s → j ≡ joined r s → Merges done j a2 b2 a b
merges_join done r a' b' a b s j a2 b2 m next reached is =
    let t = taken r.node r.first a' b' s a2 b2 m.1 m.2 next in
    let valid : r.first ≤ r.last = rise_end 0 0 done r m.0 in
    let met : (r.node ≡ s.node) × (r.first ≤ s.first) × (s.first ≤ r.last + 1) = meet r s t.0 reached in
    let in_j : (d : Dot) → in_run (joined r s) d ≡ (in_run r d || in_run s d) = λ d. in_joined r s d met.0 met.1 met.2 valid t.1 in
    subst (λ z. Merges done z a2 b2 a b) (sym is) (
      rise_grow 0 0 done r (joined r s) m.0 refl refl (omega arith),
      rise_earlier r.node r.first s.node s.first a2 (inr (met.0, met.1)) t.2,
      rise_earlier r.node r.first s.node s.first b2 (inr (met.0, met.1)) t.3,
      λ d. ap (λ x. x || (in_runs a2 d || in_runs b2 d)) (in_push done (joined r s) d ∙ ap (λ x. in_runs done d || x) (in_j d))
          ∙ or_moved (in_runs done d) (in_run r d) (in_run s d) _
          ∙ ap (λ x. x || (in_run s d || (in_runs a2 d || in_runs b2 d))) (sym (in_push done r d))
          ∙ ap (λ x. in_runs (done ++ r ∷ []) d || x) (t.4 d) ∙ m.3 d,
    )
