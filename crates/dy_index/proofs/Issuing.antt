-- An issue that names the whole past of a version makes that version.
use Rattle.std.proofs.Common.{◌≡◌, ℕ, ◌+◌, true, false, ◌&&◌, List, refl, sym, ap, ◌∙◌, subst}
use Rattle.std.proofs.Common.{⊎_elim, arith}
use Rattle.std.specs.FinSet as set
use Rattle.std.specs.List.{Contains}
use Rattle.std.specs.Cmp.{both_ways as both_ways_same}
use Rattle.std.proofs.lemmas.Bool.{cases_Bool, or_cases, or_left, or_right, and_from}
use Rattle.dy_dots.specs.Dots.{DotSet, same_dot}
use Rattle.dy_dots.specs.declared.dots.Dot.{Dot}
use Rattle.dy_siblings.specs.Versions.{in_history}
use Rattle.dy_siblings.specs.Siblings.{same_key}
use Rattle.dy_siblings.specs.declared.versions.Version.{Version}
use Rattle.dy_core.specs.Worlds.{Layout, World}
use Rattle.dy_core.specs.Steps.{IsKnown, past_of, version_made}
use Rattle.dy_siblings.proofs.Members.{any_from}
use Rattle.dy_dots.proofs.SameDots.{same_dot_is, same_dot_self}
use Rattle.dy_siblings.proofs.SameKeys.{same_key_self}
use Rattle.dy_dots.proofs.Sets.{dot_total, dot_antisymmetric}
use Rattle.dy_core.proofs.Ordered.{past_is_known, same_version}
use Rattle.dy_core.proofs.Kept.{IsSound, past_gives, past_from}

module _ (layout : Layout) (w : World) (sound : IsSound layout w) where
  -- the version of a dot that a version of the key reaches
  reached : (n : Version) → Contains w.versions n → (d : Dot) → in_history n d ≡ true →
      (u : Version) × Contains w.versions
      u × (u.key ≡ n.key) × (u.dot ≡ d) × ((e : Dot) → in_history u e ≡ true →
      in_history n e ≡ true)
  reached n made d reach =
      ⊎_elim
      (λ own. (n, made, refl, same_dot_is n.dot d own, λ e h. h))
      (λ past.
      let k = past_is_known w.versions sound.ordered n made d past in (
        k.version,
        k.in_list,
        k.key_is,
        k.dot_is,
        λ e h. or_right (same_dot n.dot e)
            (set.contains n.past e) (k.history_in e h),
      ))
      (or_cases (same_dot n.dot d) (set.contains n.past d) reach)

  -- the next dot lies in no past
  pub past_lacks_next : (node : ℕ) (key : List ℕ) (context : DotSet) (d : Dot) →
      d ≡ record { node = node; counter = w.counters node key + 1 } →
      set.contains (past_of w.versions key context) d ≡ false
  past_lacks_next node key context d is =
      ⊎_elim
      (λ yes.
      let n = past_gives w.versions key context d yes in
      let u = reached n.version n.in_list d n.reaches in
      let bound = (sound.counted u.0 u.1).1 in
      let counter_is : u.0.dot.counter ≡ w.counters node key + 1 = ap (λ x. x.counter) (u.3 ∙ is) in
      let last_is : w.counters u.0.dot.node u.0.key ≡ w.counters node key =
      λ i. w.counters (ap (λ x. x.node) (u.3 ∙ is) i) ((u.2 ∙ n.key_is) i) in
      absurd (omega (arith, bound, counter_is, last_is)))
      (λ no. no)
      (cases_Bool (set.contains (past_of w.versions key context) d))

  module _ (key : List ℕ) (context : DotSet) where
    past : DotSet
    past = past_of w.versions key context

    -- who is named by the past is in it, with its history
    again_in : (d : Dot) → set.contains (past_of w.versions key past) d ≡ true →
        set.contains past d ≡ true
    unfolding past
    again_in d h =
        let n = past_gives w.versions key past d h in
        let m = past_gives w.versions key context n.version.dot n.named in
        let u = reached m.version m.in_list n.version.dot m.reaches in
        let same = same_version w.versions sound.ordered n.version u.0 n.in_list u.1
        (n.key_is ∙ sym (u.2 ∙ m.key_is)) (sym u.3) in
        past_from w.versions key context d
        (record {
          version = m.version;
          in_list = m.in_list;
          key_is = m.key_is;
          named = m.named;
          reaches = u.4 d (ap (λ x. in_history x d) (sym same) ∙ n.reaches);
        })

    named_by : (d : Dot) → set.contains past d ≡ true →
        (u : Version) × Contains w.versions u × (u.key ≡ key) × (u.dot ≡ d)
    unfolding past
    named_by d h =
        let m = past_gives w.versions key context d h in
        let u = reached m.version m.in_list d m.reaches in
        (u.0, u.1, u.2 ∙ m.key_is, u.3)

    again_from : (d : Dot) → set.contains past d ≡ true →
        set.contains (past_of w.versions key past) d ≡ true
    unfolding past
    again_from d h =
        let u = named_by d h in
        past_from w.versions key past d
        (record {
          version = u.0;
          in_list = u.1;
          key_is = u.2;
          named = ap (set.contains past) u.3 ∙ h;
          reaches =
              or_left (same_dot u.0.dot d) (set.contains u.0.past d)
              (ap (λ x. same_dot x d) u.3 ∙ same_dot_self d);
        })

    pub past_again : past_of w.versions key (past_of w.versions key context) ≡ past_of w.versions
        key context
    unfolding past
    past_again =
        set.same_set dot_total dot_antisymmetric (past_of w.versions key past) past (λ d.
        both_ways_same (set.contains (past_of w.versions key past) d) (set.contains past d)
        (again_in d) (again_from d))

    pub known_again : IsKnown w key (past_of w.versions key context)
    unfolding past
    known_again d h =
        let u = named_by d h in
        any_from (λ v. same_key v.key key && same_dot v.dot d) w.versions u.0 u.1
        (and_from (same_key u.0.key key) (same_dot u.0.dot d)
        (ap (λ k. same_key k key) u.2 ∙ same_key_self key)
        (ap (λ x. same_dot x d) u.3 ∙ same_dot_self d))

  -- an issue of the version's own parts makes the version
  pub made_again : (node : ℕ) (v : Version) (context : DotSet) →
      v ≡ version_made w node v.key context v.value →
      version_made w node v.key v.past v.value ≡ v
  made_again node v context is =
      (λ i. version_made w node v.key ((ap (λ x. x.past) is) i) v.value)
      ∙ ((λ i. record {
        key = v.key;
        dot = record { node = node; counter = w.counters node v.key + 1 };
        past = past_again v.key context i;
        value = v.value;
      })
      ∙ sym is)

  pub known_past : (node : ℕ) (v : Version) (context : DotSet) →
      v ≡ version_made w node v.key context v.value → IsKnown w v.key v.past
  known_past node v context is =
      subst (IsKnown w v.key) (sym (ap (λ x. x.past) is)) (known_again v.key context)
