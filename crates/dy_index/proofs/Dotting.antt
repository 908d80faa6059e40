-- The dots of a row, and what is held.
use Rattle.std.proofs.Common.{◌≡◌, Bool, true, false, cond, not, ◌&&◌, List, [], ◌∷◌, map, refl}
use Rattle.std.proofs.Common.{sym, ap, ◌∙◌, subst, ⊎_elim, ℕ}
use Rattle.std.specs.List.{Contains, filter}
use Rattle.std.proofs.lemmas.Bool.{and_parts}
use Rattle.dy_dots.specs.Dots.{same_dot}
use Rattle.dy_dots.specs.declared.dots.Dot.{Dot}
use Rattle.dy_siblings.specs.Siblings.{IsSameRow, Rise, RiseAfter, same_key, without}
use Rattle.dy_siblings.specs.declared.versions.Version.{Version}
use Rattle.dy_core.specs.Worlds.{Layout, row_at}
use Rattle.dy_core.specs.Logs.{world_after, IsLegal}
use Rattle.dy_core.specs.declared.steps.Step.{Step}
use Rattle.dy_siblings.proofs.Members.{not_in_nil, in_head, in_tail, in_cases, any_gives, map_from}
use Rattle.dy_dots.proofs.SameDots.{same_dot_is}
use Rattle.dy_siblings.proofs.SameKeys.{same_key_is}
use Rattle.dy_core.proofs.Standing.{stands_from, stands_in}
use Rattle.dy_core.proofs.OverLogs.{log_sound}
use Rattle.dy_index.specs.Readings.{DotsRise, DotsRiseAfter}
use Rattle.dy_index.specs.Readings.{ListsDots}

after_dots : (d : Dot) (vs : List Version) → RiseAfter d vs → DotsRiseAfter d (map (λ v. v.dot) vs)
after_dots d [] rise = tt
after_dots d (v ∷ vs) rise = (rise.0, after_dots v.dot vs rise.1)

pub rise_dots : (vs : List Version) → Rise vs → DotsRise (map (λ v. v.dot) vs)
rise_dots [] rise = tt
rise_dots (v ∷ vs) rise = after_dots v.dot vs rise

in_map : (vs : List Version) (v : Version) → Contains vs v → Contains (map (λ u. u.dot) vs) v.dot
in_map [] v h = absurd (not_in_nil v h)
in_map (x ∷ vs) v h =
    ⊎_elim
    (λ same. subst (λ (u : Version). Contains (x.dot ∷ map (λ u. u.dot) vs) u.dot) (sym same)
    (in_head x.dot (map (λ u. u.dot) vs)))
    (λ later. in_tail x.dot v.dot (map (λ u. u.dot) vs) (in_map vs v later))
    (in_cases x v vs h)

-- the dots of the row at a place are what is held there
pub lists_dots : (layout : Layout) (steps : List Step) → IsLegal layout steps →
    (holder home : ℕ) (key : List ℕ) (vs : List Version) →
    IsSameRow vs (row_at (world_after steps) holder home key) →
    (ds : List Dot) → ds ≡ map (λ v. v.dot) vs → DotsRise ds →
    ListsDots (world_after steps) holder home key ds
lists_dots layout steps legal holder home key vs same ds ds_are rise =
    record {
      same = λ d inside.
          let m = map_from (λ (v : Version). v.dot) vs d
          (subst (λ xs. Contains xs d) ds_are inside) in
          let s = stands_from (world_after steps) holder home key m.item
          ((same m.item).0 m.in_list) in
          ap ((world_after steps).holdings holder home key) (sym m.gives) ∙ s.is_held;
      every = λ d held.
          let f = any_gives (λ v. same_key v.key key && same_dot v.dot d)
          (world_after steps).versions
          ((log_sound layout steps legal).held_sound holder home key d held).1 in
          let parts = and_parts (same_key f.item.key key) (same_dot f.item.dot d) f.passes in
          let dot_is = same_dot_is f.item.dot d parts.1 in
          let there = stands_in (world_after steps) holder home key f.item
          (record {
            made = f.in_list;
            key_is = same_key_is f.item.key key parts.0;
            is_held = ap ((world_after steps).holdings holder home key) dot_is ∙ held;
          }) in
          subst (λ xs. Contains xs d) (sym ds_are)
          (subst (Contains (map (λ v. v.dot) vs)) dot_is
          (in_map vs f.item ((same f.item).1 there)));
      rise = rise;
    }

-- the dots of a row without a dot
pub kept_dots : (vs : List Version) (d : Dot) →
    filter (λ e. not (same_dot e d)) (map (λ v. v.dot) vs) ≡ map (λ v. v.dot) (without vs d)
kept_dots [] d = refl
kept_dots (v ∷ vs) d = go (not (same_dot v.dot d)) (kept_dots vs d)
  where
    go : (b : Bool) → filter (λ e. not (same_dot e d)) (map (λ u. u.dot) vs) ≡ map (λ u. u.dot)
        (without vs d) →
        cond b (v.dot ∷ filter (λ e. not (same_dot e d)) (map (λ u. u.dot) vs))
        (filter (λ e. not (same_dot e d)) (map (λ u. u.dot) vs))
        ≡ map (λ u. u.dot) (cond b (v ∷ without vs d) (without vs d))
    go true rest = ap (λ ds. v.dot ∷ ds) rest
    go false rest = rest
