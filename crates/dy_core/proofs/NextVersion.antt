-- The version that the lists of a world give is the one that the definition makes.
use Rattle.std.proofs.Common.{◌≡◌, ℕ, ◌+◌, ◌<◌, ◌≤◌, max, true, cond, ◌&&◌, eqb, List, [], ◌∷◌, ◌++◌, Option, ◌⊎◌, refl, sym, ap, ◌∙◌, subst, inl, inr, ⊎_elim, arith}
use Rattle.std.specs.List.{fold, Contains}
use Rattle.std.specs.FinSet as set
use Rattle.std.proofs.lemmas.Bool.{cases_Bool, cases_lt, and_parts, and_from, eqb-true, eq-eqb, cond_both, cond-true, cond-false}
use Rattle.std.proofs.lemmas.List.Elements.{Contains-append_left, Contains-append_right, Contains-append_cases}
use Rattle.dy_dots.specs.Dots.{DotSet, same_dot}
use Rattle.dy_siblings.specs.Siblings.{same_key, IsSameRow}
use Rattle.dy_core.specs.Worlds.{Layout, World}
use Rattle.dy_core.specs.Steps.{version_made, after_issue}
use Rattle.dy_core.specs.inside.Meanings.{is_by, last_in, named_in, Meets}
use Rattle.dy_dots.specs.declared.dots.Dot.{Dot}
use Rattle.dy_siblings.specs.declared.versions.Version.{Version}
use Rattle.dy_core.specs.declared.acks.Acked.{Acked}
use Rattle.dy_core.specs.declared.holdings.Holding.{Holding}
use Rattle.dy_siblings.proofs.Members.{not_in_nil, in_head, in_tail, in_cases, any_gives}
use Rattle.dy_dots.proofs.SameDots.{same_dot_is}
use Rattle.dy_siblings.proofs.SameKeys.{same_key_is}
use Rattle.dy_core.proofs.Kept.{IsSound}
use Rattle.dy_core.proofs.Named.{past_from_list}
use Rattle.dy_core.proofs.Standing.{stands_from, stands_in}

-- a version of the node and the key with this counter
pub record Attained (vs : List Version) (node : ℕ) (key : List ℕ) (c : ℕ) : Type 0 where
  pub version : Version
  pub in_list : Contains vs version
  pub is_its : is_by version node key ≡ true
  pub counter_is : version.dot.counter ≡ c

module _ (node : ℕ) (key : List ℕ) where
  abbrev more : ℕ → Version → ℕ
  more a v = cond (is_by v node key) (max a v.dot.counter) a

  more_grows : (a : ℕ) (v : Version) → a ≤ more a v
  more_grows a v = cond_both (is_by v node key) (max a v.dot.counter) a (λ x. a ≤ x) (λ e. omega arith) (λ e. omega arith)

  fold_grows : (vs : List Version) (a : ℕ) → a ≤ fold more a vs
  fold_grows [] a = omega arith
  fold_grows (v ∷ vs) a = let first = more_grows a v in let rest = fold_grows vs (more a v) in omega arith

  fold_above : (vs : List Version) (a : ℕ) (v : Version) → Contains vs v → is_by v node key ≡ true → v.dot.counter ≤ fold more a vs
  fold_above [] a v h e = absurd (not_in_nil v h)
  fold_above (x ∷ vs) a v h e =
      ⊎_elim
      (λ same.
      let here : more a x ≡ max a x.dot.counter = cond-true (is_by x node key) (max a x.dot.counter) a (ap (λ y. is_by y node key) (sym same) ∙ e) in
      let counter_is : v.dot.counter ≡ x.dot.counter = ap (λ y. y.dot.counter) same in
      let rest = fold_grows vs (more a x) in
      omega arith)
      (λ later. fold_above vs (more a x) v later e)
      (in_cases x v vs h)

  fold_attained : (vs : List Version) (a : ℕ) → (fold more a vs ≡ a) ⊎ Attained vs node key (fold more a vs)
  fold_attained [] a = inl refl
  fold_attained (x ∷ vs) a =
      ⊎_elim
      (λ kept.
      ⊎_elim
      (λ its.
      let here : more a x ≡ max a x.dot.counter = cond-true (is_by x node key) (max a x.dot.counter) a its in
      ⊎_elim
      (λ (lower : x.dot.counter < a). inl (omega arith))
      (λ (higher : a ≤ x.dot.counter). inr (record { version = x; in_list = in_head x vs; is_its = its; counter_is = omega arith }))
      (cases_lt x.dot.counter a))
      (λ other. inl (kept ∙ cond-false (is_by x node key) (max a x.dot.counter) a other))
      (cases_Bool (is_by x node key)))
      (λ later. inr (record { version = later.version; in_list = in_tail x later.version vs later.in_list; is_its = later.is_its; counter_is = later.counter_is }))
      (fold_attained vs (more a x))

pub last_is : (layout : Layout) (w : World) → IsSound layout w → (issued : List Version) → IsSameRow issued w.versions → (node : ℕ) (key : List ℕ) →
    last_in issued node key ≡ w.counters node key
last_is layout w sound issued same node key =
    let low = at_most (fold_attained node key issued 0) in
    let high = at_least (cases_lt 0 (w.counters node key)) in
    omega arith
  where
    at_most : (last_in issued node key ≡ 0) ⊎ Attained issued node key (last_in issued node key) → last_in issued node key ≤ w.counters node key
    at_most (inl none) = omega arith
    at_most (inr a) =
        let v = a.version in
        let parts = and_parts (eqb v.dot.node node) (same_key v.key key) a.is_its in
        let bound = (sound.counted v ((same v).0 a.in_list)).1 in
        let last_is : w.counters v.dot.node v.key ≡ w.counters node key = λ i. w.counters (eqb-true v.dot.node node parts.0 i) (same_key_is v.key key parts.1 i) in
        let counter_is = a.counter_is in
        omega arith

    at_least : (0 < w.counters node key) ⊎ (w.counters node key ≤ 0) → w.counters node key ≤ last_in issued node key
    at_least (inr none) = omega arith
    at_least (inl some) =
        let dot : Dot = record { node = node; counter = w.counters node key } in
        let f = any_gives (λ v. same_key v.key key && same_dot v.dot dot) w.versions (sound.every_counter node key (w.counters node key) (omega arith) (omega arith)) in
        let v = f.item in
        let parts = and_parts (same_key v.key key) (same_dot v.dot dot) f.passes in
        let dot_is = same_dot_is v.dot dot parts.1 in
        let counter_is : v.dot.counter ≡ w.counters node key = ap (λ d. d.counter) dot_is in
        let above = fold_above node key issued 0 v ((same v).1 f.in_list)
        (and_from (eqb v.dot.node node) (same_key v.key key) (eq-eqb v.dot.node node (ap (λ d. d.node) dot_is)) parts.0) in
        omega arith

-- what a node makes next has no version yet
pub not_held_yet : (layout : Layout) (w : World) → IsSound layout w → (holder home : ℕ) (made : Version) →
    made.dot.counter ≡ w.counters made.dot.node made.key + 1 → w.holdings holder home made.key made.dot ≡ true → ⊥
not_held_yet layout w sound holder home made next held =
    let f = any_gives (λ v. same_key v.key made.key && same_dot v.dot made.dot) w.versions (sound.held_sound holder home made.key made.dot held).1 in
    let v = f.item in
    let parts = and_parts (same_key v.key made.key) (same_dot v.dot made.dot) f.passes in
    let key_is = same_key_is v.key made.key parts.0 in
    let dot_is = same_dot_is v.dot made.dot parts.1 in
    let bound = (sound.counted v f.in_list).1 in
    let counter_is : v.dot.counter ≡ made.dot.counter = ap (λ d. d.counter) dot_is in
    let last_is : w.counters v.dot.node v.key ≡ w.counters made.dot.node made.key = λ i. w.counters (dot_is i).node (key_is i) in
    absurd (omega arith)

module _ (layout : Layout) (w : World) (sound : IsSound layout w) (versions : List Version) (held : List Holding) (acked : List Acked)
    (meets : Meets w versions held acked) (node : ℕ) (key : List ℕ) (context : DotSet) (value : Option (List ℕ)) where
  made : Version
  made = version_made w node key context value

  -- a version with these parts is the one that the definition makes
  pub version_is : (v : Version) → v.key ≡ key → v.dot.node ≡ node → v.dot.counter ≡ last_in versions node key + 1 →
      ((d : Dot) → set.contains v.past d ≡ named_in versions key context d) → v.value ≡ value → v ≡ version_made w node key context value
  version_is v key_is node_is counter_is past_is value_is =
      let c = counter_is ∙ ap (λ n. n + 1) (last_is layout w sound versions meets.versions_are node key) in
      let dot_is : v.dot ≡ record { node = node; counter = w.counters node key + 1 } = λ i. record { node = node_is i; counter = c i } in
      let past_is_made = past_from_list versions w.versions meets.versions_are key context v.past past_is in
      λ i. record { key = key_is i; dot = dot_is i; past = past_is_made i; value = value_is i }

  pub meets_issue : (v : Version) → v ≡ version_made w node key context value →
      Meets (after_issue w (version_made w node key context value)) (versions ++ v ∷ []) held acked
  unfolding made
  meets_issue v v_is =
      record {
        versions_are = λ u. (
          (λ h.
              ⊎_elim
              (λ l. in_tail made u w.versions ((meets.versions_are u).0 l))
              (λ r. ⊎_elim (λ e. subst (Contains (made ∷ w.versions)) (sym (e ∙ v_is)) (in_head made w.versions)) (λ none. absurd (not_in_nil u none)) (in_cases v u [] r))
              (Contains-append_cases versions (v ∷ []) u h)),
          (λ h.
              ⊎_elim
              (λ e. subst (Contains (versions ++ v ∷ [])) (v_is ∙ sym e) (Contains-append_right versions (v ∷ []) v (in_head v [])))
              (λ l. Contains-append_left versions (v ∷ []) u ((meets.versions_are u).1 l))
              (in_cases made u w.versions h)),
        );
        rows_are = λ p o k u. (
          (λ h.
              let s = stands_from w p o k u ((meets.rows_are p o k u).0 h) in
              stands_in (after_issue w made) p o k u (record { made = in_tail made u w.versions s.made; key_is = s.key_is; is_held = s.is_held })),
          (λ h.
              let s = stands_from (after_issue w made) p o k u h in
              (meets.rows_are p o k u).1
              (stands_in w p o k u
              (record {
                made =
                    ⊎_elim
                    (λ same.
                    let dot_is : made.dot ≡ u.dot = ap (λ x. x.dot) (sym same) in
                    let key_is : made.key ≡ k = ap (λ x. x.key) (sym same) ∙ s.key_is in
                    absurd (not_held_yet layout w sound p o made refl ((λ i. w.holdings p o (key_is i) (dot_is i)) ∙ s.is_held)))
                    (λ older. older)
                    (in_cases made u w.versions s.made);
                key_is = s.key_is;
                is_held = s.is_held;
              }))),
        );
        none_empty = meets.none_empty;
        held_in_order = meets.held_in_order;
        acks_are = meets.acks_are;
        acks_in_order = meets.acks_in_order;
      }
