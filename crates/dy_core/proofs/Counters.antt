-- Each counter names one version.
use Rattle.std.proofs.Common.{◌≡◌, ◌↔◌, ℕ, ◌≤◌, Bool, true, ◌&&◌, List, [], ◌∷◌, length, refl, sym, ap, ◌∙◌, subst, arith}
use Rattle.std.specs.List.{filter, Contains}
use Rattle.std.proofs.lemmas.Bool.{cond_both, and_parts}
use Rattle.dy_dots.specs.Dots.{same_dot}
use Rattle.dy_siblings.specs.Siblings.{same_key}
use Rattle.dy_core.specs.Worlds.{Layout, is_issued}
use Rattle.dy_core.specs.Logs.{world_after, IsLegal}
use Rattle.dy_dots.specs.declared.dots.Dot.{Dot}
use Rattle.dy_siblings.specs.declared.versions.Version.{Version}
use Rattle.dy_core.specs.declared.steps.Step.{Step}
use Rattle.dy_siblings.proofs.Members.{in_head, in_tail, any_gives}
use Rattle.dy_dots.proofs.SameDots.{same_dot_is}
use Rattle.dy_siblings.proofs.SameKeys.{same_key_is}
use Rattle.dy_core.proofs.Ordered.{IsOrdered}
use Rattle.dy_core.proofs.OverLogs.{log_sound}

pub counters_used : (layout : Layout) (steps : List Step) → IsLegal layout steps → (node : ℕ) (key : List ℕ) (counter : ℕ) →
    (is_issued (world_after steps).versions key (record { node = node; counter = counter }) ≡ true) ↔ (1 ≤ counter) × (counter ≤ (world_after steps).counters node key)
counters_used layout steps legal node key counter = (
  (λ e.
      let v = any_gives (λ v. same_key v.key key && same_dot v.dot (record { node = node; counter = counter })) (world_after steps).versions e in
      let parts = and_parts (same_key v.item.key key) (same_dot v.item.dot (record { node = node; counter = counter })) v.passes in
      let dot_is = same_dot_is v.item.dot (record { node = node; counter = counter }) parts.1 in
      let bounds = (log_sound layout steps legal).counted v.item v.in_list in
      let counter_is : v.item.dot.counter ≡ counter = ap (λ d. d.counter) dot_is in
      let last_is : (world_after steps).counters v.item.dot.node v.item.key ≡ (world_after steps).counters node key =
      λ i. (world_after steps).counters ((ap (λ d. d.node) dot_is) i) (same_key_is v.item.key key parts.0 i) in
      (subst (λ c. 1 ≤ c) counter_is bounds.0, subst (λ c. c ≤ (world_after steps).counters node key) counter_is (subst (λ l. v.item.dot.counter ≤ l) last_is bounds.1))),
  (λ b. (log_sound layout steps legal).every_counter node key counter b.0 b.1),
)

one_passing : (key : List ℕ) (d : Dot) → Version → Bool
one_passing key d v = same_key v.key key && same_dot v.dot d

none_passing : {X : Type 0} (p : X → Bool) (xs : List X) → ((x : X) → Contains xs x → p x ≡ true → ⊥) → length (filter p xs) ≡ 0
none_passing p [] none = refl
none_passing p (x ∷ xs) none =
    cond_both (p x) (x ∷ filter p xs) (filter p xs) (λ ys. length ys ≡ 0)
    (λ passes. absurd (none x (in_head x xs) passes))
    (λ fails. none_passing p xs (λ y h. none y (in_tail x y xs h)))

once_in : (vs : List Version) → IsOrdered vs → (key : List ℕ) (d : Dot) → length (filter (one_passing key d) vs) ≤ 1
unfolding one_passing
once_in [] o key d = omega arith
once_in (v ∷ vs) o key d =
    cond_both (one_passing key d v) (v ∷ filter (one_passing key d) vs) (filter (one_passing key d) vs) (λ ys. length ys ≤ 1)
    (λ passes.
    let own = and_parts (same_key v.key key) (same_dot v.dot d) passes in
    let others = none_passing (one_passing key d) vs (λ u h also.
    let parts = and_parts (same_key u.key key) (same_dot u.dot d) also in
    o.0.fresh u h
    (same_key_is u.key key parts.0 ∙ sym (same_key_is v.key key own.0))
    (same_dot_is u.dot d parts.1 ∙ sym (same_dot_is v.dot d own.1))) in
    omega arith)
    (λ fails. once_in vs o.1 key d)

pub counters_once : (layout : Layout) (steps : List Step) → IsLegal layout steps → (key : List ℕ) (d : Dot) →
    length (filter (λ v. same_key v.key key && same_dot v.dot d) (world_after steps).versions) ≤ 1
unfolding one_passing
counters_once layout steps legal key d = once_in (world_after steps).versions (log_sound layout steps legal).ordered key d
