-- When versions are the same, and when lists of them agree.
use Rattle.std.proofs.Common.{◌≡◌, ℕ, Bool, true, false, ◌&&◌, not, List, ◌++◌, Option, Some, None, refl, sym, ap, ◌∙◌, subst, ⊎_elim}
use Rattle.std.specs.Prelude.{nat_eq}
use Rattle.std.specs.List.{list_any, Contains}
use Rattle.std.specs.Cmp.Lexicographic.{pointwise}
use Rattle.std.specs.FinSet as set
use Rattle.std.proofs.lemmas.Bool.{and_parts, and_from, true≢false, not-true, not_from_false, cases_Bool}
use Rattle.std.proofs.lemmas.List.Elements.{Contains-append_left, Contains-append_right, Contains-append_cases}
use Rattle.dy_dots.specs.Dots.{DotSet, same_dot}
use Rattle.std.specs.Bool.{Decides}
use Rattle.std.proofs.lemmas.Bool.Decides.{same_from_decides}
use Rattle.dy_dots.specs.Runs.{AreRunsOf, set_of}
use Rattle.dy_dots.specs.declared.runs.Run.{Run}
use Rattle.dy_dots.proofs.Sets.{dot_total, same_dots, set_of_is}
use Rattle.dy_dots.proofs.Unique.{same_runs}
use Rattle.dy_siblings.specs.Versions.{VersionParts}
use Rattle.dy_siblings.specs.inside.Conflicts.{same_value, same_rest, same_version, do_conflict}
use Rattle.dy_siblings.specs.Siblings.{AreOneByDot, Rise}
use Rattle.dy_siblings.specs.inside.Merging.{do_lists_conflict}
use Rattle.dy_siblings.proofs.SameKeys.{same_key_is, same_key_self}
use Rattle.dy_siblings.proofs.Members.{any_gives, any_from, none_from}
use Rattle.dy_dots.proofs.SameDots.{same_dot_is, same_dot_self}
use Rattle.dy_siblings.proofs.Rising.{one_in_rising}

same_value_is : (x y : Option (List ℕ)) → same_value x y ≡ true → x ≡ y
same_value_is None None e = refl
same_value_is (Some a) (Some b) e = ap Some (same_key_is a b e)
same_value_is None (Some b) e = absurd (true≢false (sym e))
same_value_is (Some a) None e = absurd (true≢false (sym e))

same_value_self : (x : Option (List ℕ)) → same_value x x ≡ true
same_value_self None = refl
same_value_self (Some a) = same_key_self a

subset_self : (s : DotSet) → set.is_subset s s ≡ true
subset_self s = set.contains-is_subset dot_total s s (λ d e. e)

both_ways : (a b : Bool) → (a ≡ true → b ≡ true) → (b ≡ true → a ≡ true) → a ≡ b
both_ways true b f g = sym (f refl)
both_ways false true f g = g refl
both_ways false false f g = refl

one_set : (s t : DotSet) → set.is_subset s t ≡ true → set.is_subset t s ≡ true → s ≡ t
one_set s t p q =
    same_dots s t (λ d. both_ways (set.contains s d) (set.contains t d) (set.is_subset-contains dot_total s t p d) (set.is_subset-contains dot_total t s q d))

-- two sets are one where their runs are, and where each is part of the other
pub one_by_runs : (s t : DotSet) (xs ys : List Run) → AreRunsOf xs s → AreRunsOf ys t → (b : Bool) →
    Decides b (xs ≡ ys) → b ≡ (set.is_subset s t && set.is_subset t s)
one_by_runs s t xs ys of_s of_t b decides =
    same_from_decides b (set.is_subset s t && set.is_subset t s) decides (
      (λ e. let both = and_parts (set.is_subset s t) (set.is_subset t s) e in
          same_runs 0 0 xs ys of_s.apart of_t.apart (λ q.
          sym (of_s.members q) ∙ ap (λ u. set.contains u q) (one_set s t both.0 both.1) ∙ of_t.members q)),
      (λ same. let one : s ≡ t = sym (set_of_is xs s of_s.members) ∙ ap set_of same ∙ set_of_is ys t of_t.members in
          subst (λ u. (set.is_subset s u && set.is_subset u s) ≡ true) one
          (and_from (set.is_subset s s) (set.is_subset s s) (subset_self s) (subset_self s))),
    )

pub same_version_is : (u v : VersionParts) → same_version u v ≡ true → u ≡ v
same_version_is u v e =
    let halves = and_parts (pointwise nat_eq u.key v.key && same_dot u.dot v.dot) ((set.is_subset u.past v.past && set.is_subset v.past u.past) && same_value u.value v.value) e in
    let name = and_parts (pointwise nat_eq u.key v.key) (same_dot u.dot v.dot) halves.0 in
    let rest = and_parts (set.is_subset u.past v.past && set.is_subset v.past u.past) (same_value u.value v.value) halves.1 in
    let pasts = and_parts (set.is_subset u.past v.past) (set.is_subset v.past u.past) rest.0 in
    let k : u.key ≡ v.key = same_key_is u.key v.key name.0 in
    let d : u.dot ≡ v.dot = same_dot_is u.dot v.dot name.1 in
    let p : u.past ≡ v.past = one_set u.past v.past pasts.0 pasts.1 in
    let x : u.value ≡ v.value = same_value_is u.value v.value rest.1 in
    λ i. record { key = k i; dot = d i; past = p i; value = x i }

same_version_self : (u : VersionParts) → same_version u u ≡ true
same_version_self u =
    and_from (pointwise nat_eq u.key u.key && same_dot u.dot u.dot) ((set.is_subset u.past u.past && set.is_subset u.past u.past) && same_value u.value u.value)
    (and_from (pointwise nat_eq u.key u.key) (same_dot u.dot u.dot) (same_key_self u.key) (same_dot_self u.dot))
    (and_from (set.is_subset u.past u.past && set.is_subset u.past u.past) (same_value u.value u.value)
    (and_from (set.is_subset u.past u.past) (set.is_subset u.past u.past) (subset_self u.past) (subset_self u.past))
    (same_value_self u.value))

pub same_version_from : (u v : VersionParts) → u ≡ v → same_version u v ≡ true
same_version_from u v e = ap (same_version u) (sym e) ∙ same_version_self u

-- versions of one key and dot whose rest is the same are one
pub agreed_is : (u v : VersionParts) → u.key ≡ v.key → u.dot ≡ v.dot → same_rest u v ≡ true → u ≡ v
agreed_is u v k d e =
    let rest = and_parts (set.is_subset u.past v.past && set.is_subset v.past u.past) (same_value u.value v.value) e in
    let pasts = and_parts (set.is_subset u.past v.past) (set.is_subset v.past u.past) rest.0 in
    let p : u.past ≡ v.past = one_set u.past v.past pasts.0 pasts.1 in
    let x : u.value ≡ v.value = same_value_is u.value v.value rest.1 in
    λ i. record { key = k i; dot = d i; past = p i; value = x i }

pub agreed_from : (u v : VersionParts) → u ≡ v → same_rest u v ≡ true
agreed_from u v e =
    (and_parts (pointwise nat_eq u.key v.key && same_dot u.dot v.dot) (same_rest u v) (same_version_from u v e)).1

-- versions of one dot that do not conflict are one
settled : (u v : VersionParts) → do_conflict u v ≡ false → u.dot ≡ v.dot → u ≡ v
settled u v e same =
    ⊎_elim
    (λ yes. same_version_is u v yes)
    (λ no. absurd (true≢false (sym (and_from (same_dot u.dot v.dot) (not (same_version u v)) (ap (same_dot u.dot) (sym same) ∙ same_dot_self u.dot) (not_from_false (same_version u v) no)) ∙ e)))
    (cases_Bool (same_version u v))

none_found : (a b : List VersionParts) → do_lists_conflict a b ≡ false → (u v : VersionParts) → Contains a u → Contains b v → do_conflict u v ≡ false
none_found a b e u v in_a in_b =
    ⊎_elim
    (λ yes. absurd (true≢false (sym (any_from (λ x. list_any (λ y. do_conflict x y) b) a u in_a (any_from (λ y. do_conflict u y) b v in_b yes)) ∙ e)))
    (λ no. no)
    (cases_Bool (do_conflict u v))

-- lists in the order of their dots agree where none of the one conflicts with one of the other
pub agree_from : (a b : List VersionParts) → Rise a → Rise b → do_lists_conflict a b ≡ false → AreOneByDot (a ++ b)
agree_from a b rise_a rise_b e u v in_u in_v same =
    ⊎_elim
    (λ u_a.
    ⊎_elim
    (λ v_a. one_in_rising a rise_a u v u_a v_a same)
    (λ v_b. settled u v (none_found a b e u v u_a v_b) same)
    (Contains-append_cases a b v in_v))
    (λ u_b.
    ⊎_elim
    (λ v_a. sym (settled v u (none_found a b e v u v_a u_b) (sym same)))
    (λ v_b. one_in_rising b rise_b u v u_b v_b same)
    (Contains-append_cases a b v in_v))
    (Contains-append_cases a b u in_u)

pub agree_then : (a b : List VersionParts) → AreOneByDot (a ++ b) → do_lists_conflict a b ≡ false
agree_then a b one =
    none_from (λ u. list_any (λ v. do_conflict u v) b) a (λ u in_a yes.
    let v = any_gives (λ y. do_conflict u y) b yes in
    let parts = and_parts (same_dot u.dot v.item.dot) (not (same_version u v.item)) v.passes in
    let same = one u v.item (Contains-append_left a b u in_a) (Contains-append_right a b v.item v.in_list) (same_dot_is u.dot v.item.dot parts.0) in
    true≢false (sym (same_version_from u v.item same) ∙ not-true (same_version u v.item) parts.1))
