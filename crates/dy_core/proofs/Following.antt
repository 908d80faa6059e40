-- What follows from what a step brings, and from what a past names.
use Rattle.std.proofs.Common.{◌≡◌, ℕ, true, ◌&&◌, List, ◌++◌, Option, None, refl, sym, ap, ◌∙◌}
use Rattle.std.proofs.Common.{⊎_elim}
use Rattle.std.specs.List.{Contains}
use Rattle.std.specs.FinSet as set
use Rattle.std.specs.Cmp.{both_ways as both_ways_same}
use Rattle.std.proofs.lemmas.Bool.{and_from, or_left}
use Rattle.std.proofs.lemmas.List.Elements.{Contains-append_right}
use Rattle.dy_dots.specs.Dots.{DotSet, same_dot}
use Rattle.dy_siblings.specs.Versions.{in_history}
use Rattle.dy_siblings.specs.Siblings.{Siblings, IsSameRow, same_key, merge}
use Rattle.dy_core.specs.Worlds.{Layout, World, AreMadeOf, is_issued, row_at}
use Rattle.dy_core.specs.Covers.{covers_at}
use Rattle.dy_core.specs.Steps.{past_of, version_made, after_issue, after_hold}
use Rattle.dy_core.specs.Logs.{Known}
use Rattle.dy_dots.specs.declared.dots.Dot.{Dot}
use Rattle.dy_siblings.specs.declared.versions.Version.{Version}
use Rattle.dy_siblings.proofs.Members.{any_gives, any_from, in_cases, in_tail}
use Rattle.dy_dots.proofs.SameDots.{same_dot_self}
use Rattle.dy_siblings.proofs.SameKeys.{same_key_self}
use Rattle.dy_dots.proofs.Sets.{dot_total, dot_antisymmetric}
use Rattle.dy_core.proofs.Ordered.{IsOrdered, newest_covers, same_version}
use Rattle.dy_core.proofs.Standing.{AreOf-held, stands_from, stands_in}
use Rattle.dy_core.proofs.NextVersion.{not_held_yet}
use Rattle.dy_core.proofs.Kept.{IsSound, past_gives, past_from, past_named_known}
use Rattle.dy_core.proofs.Keeping.{hold_row}

-- what a hold brings is covered at its place
pub hold_covers : (w : World) → IsOrdered w.versions →
    (holder home : ℕ) (row : Siblings) → AreMadeOf w row.key row.versions →
    (v : Version) → Contains row.versions v →
    covers_at (after_hold w holder home row) row.key v.dot holder home ≡ true
hold_covers w ordered holder home row made v h =
    let both = row_at w holder home row.key ++ row.versions in
    let own : in_history v v.dot ≡ true =
    or_left (same_dot v.dot v.dot) (set.contains v.past v.dot) (same_dot_self v.dot) in
    let inside = any_from (λ x. in_history x v.dot) both v
    (Contains-append_right (row_at w holder home row.key) row.versions v h) own in
    let kept = newest_covers w.versions ordered row.key both
    (λ x i. AreOf-held w holder home row made x i) v.dot inside in
    let top = any_gives (λ x. in_history x v.dot)
    (merge (row_at w holder home row.key) row.versions) kept in
    any_from (λ x. in_history x v.dot) (row_at (after_hold w holder home row) holder home row.key)
    top.item
    ((hold_row w ordered holder home row made top.item).0 top.in_list) top.passes

module _ (vs : List Version) (ordered : IsOrdered vs) (key : List ℕ) (context : DotSet) where
  past : DotSet
  past = past_of vs key context

  stand_in : Version
  stand_in = record {
    key = key;
    dot = record { node = 0; counter = 0 };
    past = past_of vs key context;
    value = None;
  }

  known : (d : Dot) → set.contains (past_of vs key context) d ≡ true → Known vs stand_in d
  unfolding stand_in
  known d e = past_named_known vs ordered stand_in context refl d e

  -- each dot of a past that a context gives is of a version of the key
  pub past_issued : (d : Dot) → set.contains (past_of vs key context) d ≡ true →
      is_issued vs key d ≡ true
  unfolding stand_in
  past_issued d e =
      let k = known d e in
      any_from (λ x. same_key x.key key && same_dot x.dot d) vs k.version k.in_list
      (and_from (same_key k.version.key key) (same_dot k.version.dot d)
      (ap (λ j. same_key j key) k.key_is ∙ same_key_self key)
      (ap (λ x. same_dot x d) k.dot_is ∙ same_dot_self d))

  into : (d : Dot) → set.contains (past_of vs key (past_of vs key context)) d ≡ true →
      set.contains (past_of vs key context) d ≡ true
  unfolding stand_in
  into d e =
      let n = past_gives vs key (past_of vs key context) d e in
      let k = known n.version.dot n.named in
      let same = same_version vs ordered k.version n.version k.in_list n.in_list
      (k.key_is ∙ sym n.key_is) k.dot_is in
      k.history_in d (ap (λ x. in_history x d) same ∙ n.reaches)

  from : (d : Dot) → set.contains (past_of vs key context) d ≡ true →
      set.contains (past_of vs key (past_of vs key context)) d ≡ true
  unfolding stand_in
  from d e =
      let k = known d e in
      past_from vs key (past_of vs key context) d
      (record {
        version = k.version;
        in_list = k.in_list;
        key_is = k.key_is;
        named = ap (λ x. set.contains (past_of vs key context) x) k.dot_is ∙ e;
        reaches = or_left (same_dot k.version.dot d) (set.contains k.version.past d)
            (ap (λ x. same_dot x d) k.dot_is ∙ same_dot_self d);
      })

  -- a past, as a context, gives itself
  pub past_again : past_of vs key (past_of vs key context) ≡ past_of vs key context
  past_again =
      set.same_set dot_total dot_antisymmetric (past_of vs key (past_of vs key context))
      (past_of vs key context)
      (λ d. both_ways_same (set.contains (past_of vs key (past_of vs key context)) d)
      (set.contains (past_of vs key context) d) (into d) (from d))

-- an issue changes no row
pub issue_elsewhere : (layout : Layout) (w : World) → IsSound layout w →
    (node : ℕ) (key : List ℕ) (context : DotSet) (value : Option (List ℕ)) (p o : ℕ) (k : List ℕ) →
    IsSameRow (row_at (after_issue w (version_made w node key context value)) p o k)
    (row_at w p o k)
issue_elsewhere layout w sound node key context value p o k v = (
  (λ inside.
      let made = version_made w node key context value in
      let s = stands_from (after_issue w made) p o k v inside in
      ⊎_elim
      (λ same. absurd (not_held_yet layout w sound p o made refl
      (ap (λ x. w.holdings p o x.key x.dot) (sym same)
      ∙ (ap (λ j. w.holdings p o j v.dot) s.key_is ∙ s.is_held))))
      (λ old. stands_in w p o k v (record { made = old; key_is = s.key_is; is_held = s.is_held }))
      (in_cases made v w.versions s.made)),
  (λ inside.
      let s = stands_from w p o k v inside in
      stands_in (after_issue w (version_made w node key context value)) p o k v
      (record {
        made = in_tail (version_made w node key context value) v w.versions s.made;
        key_is = s.key_is;
        is_held = s.is_held;
      })),
)
