-- What a context leaves beside the version that it gives. A legal world has no version of a row in
-- the past of another, and none of the dot that comes next; so what the past lacks stays.
use Rattle.std.proofs.Common.{◌≡◌, ◌∙◌, ◌++◌, ◌+◌, ◌&&◌, ◌∷◌, [], ℕ, List, Option, true, false, not}
use Rattle.std.proofs.Common.{ap, arith, refl, subst, sym, ⊎_elim}
use Rattle.std.specs.List.{Contains}
use Rattle.std.specs.FinSet as set
use Rattle.std.proofs.lemmas.Bool.{and_from, and_parts, cases_Bool, not_from_false, or_cases}
use Rattle.std.proofs.lemmas.Bool.{true≢false}
use Rattle.std.proofs.lemmas.List.Elements.{Contains-append_cases, Contains-append_left}
use Rattle.dy_dots.specs.Dots.{DotSet, dot_cmp, same_dot}
use Rattle.dy_dots.specs.declared.dots.Dot.{Dot}
use Rattle.dy_dots.proofs.SameDots.{same_dot_is}
use Rattle.dy_dots.proofs.Sets.{same_dots}
use Rattle.dy_siblings.specs.Siblings.{IsSameRow, merge}
use Rattle.dy_siblings.specs.Versions.{are_concurrent, in_history}
use Rattle.dy_siblings.specs.declared.versions.Version.{Version}
use Rattle.dy_siblings.proofs.Members.{any_from, in_cases, none_from, not_in_nil}
use Rattle.dy_core.specs.Worlds.{Layout, World, empty_world, row_at}
use Rattle.dy_core.specs.Steps.{IsAllowed, after_hold, after_issue, after_release, past_of}
use Rattle.dy_core.specs.Steps.{same_place, version_made, world_after_step}
use Rattle.dy_core.specs.Logs.{IsLegal, world_after}
use Rattle.dy_core.specs.declared.steps.Step.{Step}
use Rattle.dy_core.specs.declared.steps.Step.TheVariants.{Issue, Hold, Release, Fetch, Ack}
use Rattle.dy_core.proofs.Following.{issue_elsewhere}
use Rattle.dy_core.proofs.Keeping.{hold_elsewhere, hold_row}
use Rattle.dy_core.proofs.Kept.{IsSound, empty_sound, past_gives}
use Rattle.dy_core.proofs.Merging.{newest_from, newest_in}
use Rattle.dy_core.proofs.Ordered.{past_is_known}
use Rattle.dy_core.proofs.OverLogs.{kept_from, log_sound}
use Rattle.dy_core.proofs.Standing.{place_is, stands_from, stands_in}
use Rattle.dy_coord.specs.Following.{IsUnnamed}

-- no version of the row lies in the past of another
abbrev HasNoPast : List Version → Type 0
HasNoPast vs =
    (u v : Version) → Contains vs u → Contains vs v → set.contains v.past u.dot ≡ true → ⊥

abbrev AreApart : World → Type 0
AreApart w = (holder home : ℕ) (key : List ℕ) → HasNoPast (row_at w holder home key)

within : (xs ys : List Version) → ((v : Version) → Contains xs v → Contains ys v) →
    HasNoPast ys → HasNoPast xs
within xs ys into apart u v in_u in_v below = apart u v (into u in_u) (into v in_v) below

merged : (xs ys : List Version) → HasNoPast (merge xs ys)
merged xs ys u v in_u in_v below =
    let old = newest_from (xs ++ ys) u in_u in
    let new = newest_from (xs ++ ys) v in_v in
    true≢false
    (sym (any_from (λ x. set.contains x.past u.dot) (xs ++ ys) v new.0 below) ∙ old.1)

step_apart : (layout : Layout) (w : World) → IsSound layout w → (s : Step) →
    IsAllowed layout w s → AreApart w → AreApart (world_after_step w s)
step_apart layout w sound (Issue node key context value) a apart p o k =
    within (row_at (after_issue w (version_made w node key context value)) p o k)
    (row_at w p o k)
    (λ v. (issue_elsewhere layout w sound node key context value p o k v).0) (apart p o k)
step_apart layout w sound (Hold place row) a apart p o k =
    ⊎_elim
    (λ here.
    let is = place_is place.holder place.home row.key p o k here in
    let after = after_hold w place.holder place.home row in
    let moved : HasNoPast (row_at after place.holder place.home row.key) =
    within (row_at after place.holder place.home row.key)
    (merge (row_at w place.holder place.home row.key) row.versions)
    (λ v. (hold_row w sound.ordered place.holder place.home row a.1 v).1)
    (merged (row_at w place.holder place.home row.key) row.versions) in
    subst (λ n. HasNoPast (row_at after n o k)) (sym is.holder_is)
    (subst (λ n. HasNoPast (row_at after place.holder n k)) (sym is.home_is)
    (subst (λ j. HasNoPast (row_at after place.holder place.home j)) (sym is.key_is) moved)))
    (λ elsewhere.
    within (row_at (after_hold w place.holder place.home row) p o k) (row_at w p o k)
    (λ v. (hold_elsewhere w place.holder place.home row p o k elsewhere v).1) (apart p o k))
    (cases_Bool (same_place place.holder place.home row.key p o k))
step_apart layout w sound (Release place key d) a apart p o k =
    within (row_at (after_release w place.holder place.home key d) p o k) (row_at w p o k)
    (λ v h.
    let s = stands_from (after_release w place.holder place.home key d) p o k v h in
    stands_in w p o k v
    (record {
      made = s.made;
      key_is = s.key_is;
      is_held = (and_parts (w.holdings p o k v.dot)
          (not (same_place place.holder place.home key p o k && same_dot v.dot d)) s.is_held).0;
    })) (apart p o k)
step_apart layout w sound (Fetch place key) a apart p o k = apart p o k
step_apart layout w sound (Ack key d count) a apart p o k = apart p o k

module _ (layout : Layout) (log : List Step) (legal : IsLegal layout log) where
  -- a row of a legal world has no version in the past of another
  rows_apart : AreApart (world_after log)
  rows_apart =
      kept_from layout AreApart (step_apart layout) empty_world (empty_sound layout) log legal
      (λ p o k u v in_u in_v below. not_in_nil u in_u)

  module _ (node : ℕ) (key : List ℕ) where
    -- no version of the key has the dot that the node makes next
    next_is_new : (v : Version) → Contains (world_after log).versions v → v.key ≡ key →
        v.dot ≡ record { node = node; counter = (world_after log).counters node key + 1 } → ⊥
    next_is_new v h k d =
        let w = world_after log in
        let most = ((log_sound layout log legal).counted v h).1 in
        let counter_is : v.dot.counter ≡ w.counters node key + 1 = ap (λ (x : Dot). x.counter) d in
        let last_is : w.counters v.dot.node v.key ≡ w.counters node key =
        λ i. w.counters (d i).node (k i) in
        absurd (omega arith)

    module _ (context : DotSet) (value : Option (List ℕ)) (u : Version)
        (is : IsUnnamed (world_after log).versions key context u) where
      made : Version
      made = version_made (world_after log) node key context value

      not_in_past : set.contains (past_of (world_after log).versions key context) u.dot ≡ true → ⊥
      not_in_past below =
          let n = past_gives (world_after log).versions key context u.dot below in
          ⊎_elim
          (λ own. true≢false
          (sym n.named ∙ ap (set.contains context) (same_dot_is n.version.dot u.dot own)
          ∙ is.not_named))
          (λ under. true≢false
          (sym under ∙ is.not_followed n.version
          (record { made = n.in_list; key_is = n.key_is; named = n.named })))
          (or_cases (same_dot n.version.dot u.dot) (set.contains n.version.past u.dot) n.reaches)

      not_after : in_history u made.dot ≡ true → ⊥
      unfolding made
      not_after reaches =
          ⊎_elim
          (λ own. next_is_new u is.made is.key_is (same_dot_is u.dot made.dot own))
          (λ under.
          let k = past_is_known (world_after log).versions (log_sound layout log legal).ordered u
          is.made made.dot under in
          next_is_new k.version k.in_list (k.key_is ∙ is.key_is) k.dot_is)
          (or_cases (same_dot u.dot made.dot) (set.contains u.past made.dot) reaches)

      not_before : in_history made u.dot ≡ true → ⊥
      unfolding made
      not_before reaches =
          ⊎_elim
          (λ own. next_is_new u is.made is.key_is (sym (same_dot_is made.dot u.dot own)))
          (λ under. not_in_past under)
          (or_cases (same_dot made.dot u.dot) (set.contains made.past u.dot) reaches)

      -- what the context leaves out is concurrent with the version
      pub stays_concurrent :
          are_concurrent u (version_made (world_after log) node key context value) ≡ true
      unfolding made
      stays_concurrent =
          and_from (not (in_history u made.dot)) (not (in_history made u.dot))
          (not_from_false (in_history u made.dot)
          (⊎_elim (λ yes. absurd (not_after yes)) (λ no. no) (cases_Bool (in_history u made.dot))))
          (not_from_false (in_history made u.dot)
          (⊎_elim (λ yes. absurd (not_before yes)) (λ no. no) (cases_Bool (in_history made u.dot))))

      -- and stays in the row that held it
      pub stays_sibling : (holder home : ℕ) →
          Contains (row_at (world_after log) holder home key) u →
          Contains (merge (row_at (world_after log) holder home key)
          (version_made (world_after log) node key context value ∷ [])) u
      unfolding made
      stays_sibling holder home h =
          let held = row_at (world_after log) holder home key in
          newest_in (held ++ made ∷ []) u (Contains-append_left held (made ∷ []) u h)
          (none_from (λ x. set.contains x.past u.dot) (held ++ made ∷ []) (λ x in_both below.
          ⊎_elim
          (λ in_held. rows_apart holder home key u x h in_held below)
          (λ in_new.
          ⊎_elim
          (λ same. not_in_past (ap (λ (y : Version). set.contains y.past u.dot) (sym same) ∙ below))
          (λ in_none. not_in_nil x in_none)
          (in_cases made x [] in_new))
          (Contains-append_cases held (made ∷ []) x in_both)))

-- a context that names nothing gives no past
pub empty_past : (vs : List Version) (key : List ℕ) (context : DotSet) → context ≡ set.empty →
    past_of vs key context ≡ set.empty
empty_past vs key context none =
    same_dots (past_of vs key context) set.empty (λ d.
    ⊎_elim
    (λ yes.
    let n = past_gives vs key context d yes in
    absurd (true≢false
    (sym n.named ∙ ap (λ s. set.contains s n.version.dot) none
    ∙ set.contains-empty dot_cmp n.version.dot)))
    (λ no. no ∙ sym (set.contains-empty dot_cmp d))
    (cases_Bool (set.contains (past_of vs key context) d)))
