-- Rows merged one after another are the rows merged at once.
use Rattle.std.proofs.Common.{◌≡◌, ℕ, true, false, not, List, ◌++◌, append_assoc, sym, subst, ap, ◌∙◌, ⊎_elim}
use Rattle.std.specs.List.{Contains}
use Rattle.std.specs.FinSet as set
use Rattle.std.proofs.lemmas.Bool.{or_cases, or_left, or_right, true≢false, not-true, not_from_false}
use Rattle.std.proofs.lemmas.List.Elements.{All-contains, Contains-append_left, Contains-append_right, Contains-append_cases}
use Rattle.dy_dots.specs.Dots.{same_dot}
use Rattle.dy_siblings.specs.Versions.{in_history}
use Rattle.dy_siblings.specs.Siblings.{is_past, newest, merge, IsSameRow}
use Rattle.dy_core.specs.Worlds.{Layout, World, AreMadeOf}
use Rattle.dy_core.specs.Logs.{world_after, IsLegal}
use Rattle.dy_dots.specs.declared.dots.Dot.{Dot}
use Rattle.dy_siblings.specs.declared.versions.Version.{Version}
use Rattle.dy_core.specs.declared.steps.Step.{Step}
use Rattle.dy_siblings.proofs.Members.{any_gives, any_from, none_from, filter_in, filter_from}
use Rattle.dy_dots.proofs.SameDots.{same_dot_is, same_dot_self}
use Rattle.dy_core.proofs.Ordered.{IsOrdered, AreOf, past_is_known, same_version, newest_covers}
use Rattle.dy_core.proofs.OverLogs.{log_sound}

pub newest_from : (vs : List Version) (v : Version) → Contains (newest vs) v → Contains vs v × (is_past vs v.dot ≡ false)
newest_from vs v h =
    let f = filter_from (λ x. not (is_past vs x.dot)) vs v h in (f.0, not-true (is_past vs v.dot) f.1)

pub newest_in : (vs : List Version) (v : Version) → Contains vs v → is_past vs v.dot ≡ false → Contains (newest vs) v
newest_in vs v h e = filter_in (λ x. not (is_past vs x.dot)) vs v h (not_from_false (is_past vs v.dot) e)

-- what is in the past of a part is in the past of the whole
past_of_part : (part whole : List Version) → ((v : Version) → Contains part v → Contains whole v) → (d : Dot) → is_past whole d ≡ false → is_past part d ≡ false
past_of_part part whole within d e =
    none_from (λ v. set.contains v.past d) part (λ v h below.
    true≢false (sym (any_from (λ v. set.contains v.past d) whole v (within v h) below) ∙ e))

-- the same versions have the same newest
pub newest_same : (xs ys : List Version) → IsSameRow xs ys → IsSameRow (newest xs) (newest ys)
newest_same xs ys same v = (
  (λ h. let f = newest_from xs v h in newest_in ys v ((same v).0 f.0) (past_of_part ys xs (λ u. (same u).1) v.dot f.1)),
  (λ h. let f = newest_from ys v h in newest_in xs v ((same v).1 f.0) (past_of_part xs ys (λ u. (same u).0) v.dot f.1)),
)

pub same_row_on : (xs ys zs : List Version) → IsSameRow xs ys → IsSameRow ys zs → IsSameRow xs zs
same_row_on xs ys zs p q v = (λ h. (q v).0 ((p v).0 h), λ h. (p v).1 ((q v).1 h))

pub same_row_back : (xs ys : List Version) → IsSameRow xs ys → IsSameRow ys xs
same_row_back xs ys p v = ((p v).1, (p v).0)

append_turned : (xs ys : List Version) → IsSameRow (xs ++ ys) (ys ++ xs)
append_turned xs ys v = (turn xs ys, turn ys xs)
  where
    turn : (xs ys : List Version) → Contains (xs ++ ys) v → Contains (ys ++ xs) v
    turn xs ys h = ⊎_elim (λ l. Contains-append_right ys xs v l) (λ r. Contains-append_left ys xs v r) (Contains-append_cases xs ys v h)

module _ (all : List Version) (ordered : IsOrdered all) (key : List ℕ) where
  -- what is in the past of some versions is in the past of the newest of them
  past_of_newest : (vs : List Version) → AreOf all key vs → (d : Dot) → is_past vs d ≡ true → is_past (newest vs) d ≡ true
  past_of_newest vs of d e =
      let u = any_gives (λ v. set.contains v.past d) vs e in
      let reached = newest_covers all ordered key vs of u.item.dot
      (any_from (λ v. in_history v u.item.dot) vs u.item u.in_list (or_own u.item)) in
      let t = any_gives (λ v. in_history v u.item.dot) (newest vs) reached in
      let t_of = of t.item (newest_from vs t.item t.in_list).0 in
      let u_of = of u.item u.in_list in
      any_from (λ v. set.contains v.past d) (newest vs) t.item t.in_list
      (⊎_elim
      (λ own.
      let same = same_version all ordered t.item u.item t_of.0 u_of.0 (t_of.1 ∙ sym u_of.1) (same_dot_is t.item.dot u.item.dot own) in
      ap (λ v. set.contains v.past d) same ∙ u.passes)
      (λ below.
      let k = past_is_known all ordered t.item t_of.0 u.item.dot below in
      let same = same_version all ordered k.version u.item k.in_list u_of.0 (k.key_is ∙ t_of.1 ∙ sym u_of.1) k.dot_is in
      k.history_in d (or_right (same_dot k.version.dot d) (set.contains k.version.past d) (ap (λ v. set.contains v.past d) same ∙ u.passes)))
      (or_cases (same_dot t.item.dot u.item.dot) (set.contains t.item.past u.item.dot) t.passes))
    where
      or_own : (v : Version) → in_history v v.dot ≡ true
      or_own v = or_left (same_dot v.dot v.dot) (set.contains v.past v.dot) (same_dot_self v.dot)

  pub merge_in_turn : (xs ys : List Version) → AreOf all key xs → AreOf all key ys → IsSameRow (merge (newest xs) ys) (newest (xs ++ ys))
  merge_in_turn xs ys of_xs of_ys v = (
    (λ h.
        let f = newest_from (newest xs ++ ys) v h in
        newest_in (xs ++ ys) v (wider v f.0)
        (none_from (λ u. set.contains u.past v.dot) (xs ++ ys) (λ u in_both below.
        ⊎_elim
        (λ in_xs.
        let t = any_gives (λ u. set.contains u.past v.dot) (newest xs)
        (past_of_newest xs of_xs v.dot (any_from (λ u. set.contains u.past v.dot) xs u in_xs below)) in
        true≢false (sym (any_from (λ u. set.contains u.past v.dot) (newest xs ++ ys) t.item (Contains-append_left (newest xs) ys t.item t.in_list) t.passes) ∙ f.1))
        (λ in_ys.
        true≢false (sym (any_from (λ u. set.contains u.past v.dot) (newest xs ++ ys) u (Contains-append_right (newest xs) ys u in_ys) below) ∙ f.1))
        (Contains-append_cases xs ys u in_both)))),
    (λ h.
        let f = newest_from (xs ++ ys) v h in
        newest_in (newest xs ++ ys) v
        (⊎_elim
        (λ in_xs. Contains-append_left (newest xs) ys v (newest_in xs v in_xs (past_of_part xs (xs ++ ys) (Contains-append_left xs ys) v.dot f.1)))
        (λ in_ys. Contains-append_right (newest xs) ys v in_ys)
        (Contains-append_cases xs ys v f.0))
        (past_of_part (newest xs ++ ys) (xs ++ ys) wider v.dot f.1)),
  )
    where
      wider : (v : Version) → Contains (newest xs ++ ys) v → Contains (xs ++ ys) v
      wider v h =
          ⊎_elim
          (λ l. Contains-append_left xs ys v (newest_from xs v l).0)
          (λ r. Contains-append_right xs ys v r)
          (Contains-append_cases (newest xs) ys v h)

  of_both : (xs ys : List Version) → AreOf all key xs → AreOf all key ys → AreOf all key (xs ++ ys)
  of_both xs ys of_xs of_ys v h = ⊎_elim (λ l. of_xs v l) (λ r. of_ys v r) (Contains-append_cases xs ys v h)

  pub merge_twice : (xs ys zs : List Version) → AreOf all key xs → AreOf all key ys → AreOf all key zs →
      IsSameRow (merge (merge xs ys) zs) (merge xs (merge ys zs))
  merge_twice xs ys zs of_xs of_ys of_zs =
      same_row_on _ _ _ (merge_in_turn (xs ++ ys) zs (of_both xs ys of_xs of_ys) of_zs)
      (same_row_on _ _ _ (newest_same ((xs ++ ys) ++ zs) ((ys ++ zs) ++ xs) turned)
      (same_row_on _ _ _ (same_row_back _ _ (merge_in_turn (ys ++ zs) xs (of_both ys zs of_ys of_zs) of_xs))
      (newest_same (newest (ys ++ zs) ++ xs) (xs ++ newest (ys ++ zs)) (append_turned (newest (ys ++ zs)) xs))))
    where
      turned : IsSameRow ((xs ++ ys) ++ zs) ((ys ++ zs) ++ xs)
      turned = subst (λ l. IsSameRow l ((ys ++ zs) ++ xs)) (sym (append_assoc xs ys zs)) (append_turned xs (ys ++ zs))

made_of : (w : World) (key : List ℕ) (vs : List Version) → AreMadeOf w key vs → AreOf w.versions key vs
made_of w key vs made v h = let m = All-contains (λ v. (v.key ≡ key) × Contains w.versions v) vs v made h in (m.1, m.0)

pub log_merges : (layout : Layout) (steps : List Step) → IsLegal layout steps → (key : List ℕ) (xs ys : List Version) →
    AreMadeOf (world_after steps) key xs → AreMadeOf (world_after steps) key ys → IsSameRow (merge (newest xs) ys) (newest (xs ++ ys))
log_merges layout steps legal key xs ys made_xs made_ys =
    merge_in_turn (world_after steps).versions (log_sound layout steps legal).ordered key xs ys
    (made_of (world_after steps) key xs made_xs) (made_of (world_after steps) key ys made_ys)

pub log_merges_twice : (layout : Layout) (steps : List Step) → IsLegal layout steps → (key : List ℕ) (xs ys zs : List Version) →
    AreMadeOf (world_after steps) key xs → AreMadeOf (world_after steps) key ys → AreMadeOf (world_after steps) key zs →
    IsSameRow (merge (merge xs ys) zs) (merge xs (merge ys zs))
log_merges_twice layout steps legal key xs ys zs made_xs made_ys made_zs =
    merge_twice (world_after steps).versions (log_sound layout steps legal).ordered key xs ys zs
    (made_of (world_after steps) key xs made_xs) (made_of (world_after steps) key ys made_ys) (made_of (world_after steps) key zs made_zs)
