-- A step in the lists of a world gives the lists of the world after it.
use Rattle.std.proofs.Common.{◌≡◌, ℕ, ◌+◌, ◌<◌, true, false, List, [], ◌∷◌, ◌++◌, Option, refl, sym, ap, ◌∙◌, subst, ⊎_elim, arith}
use Rattle.std.specs.List.{Contains}
use Rattle.std.specs.FinSet as set
use Rattle.std.proofs.lemmas.Bool.{cases_Bool, or_cases}
use Rattle.std.proofs.lemmas.List.Elements.{All-contains, Contains-append_cases}
use Rattle.dy_dots.specs.Dots.{DotSet, same_dot}
use Rattle.dy_siblings.specs.Siblings.{Siblings, AreOneByDot, IsSameRow, merge, without}
use Rattle.dy_core.specs.Worlds.{Layout, World}
use Rattle.dy_core.specs.Steps.{IsAllowed, world_after_step, row_answered}
use Rattle.dy_core.specs.Logs.{world_after}
use Rattle.dy_core.specs.inside.Meanings.{IsAfter, Meets, named_in, last_in, row_in, kept}
use Rattle.dy_core.specs.Orders.{ack_cmp, put}
use Rattle.dy_dots.specs.declared.dots.Dot.{Dot}
use Rattle.dy_siblings.specs.declared.versions.Version.{Version}
use Rattle.dy_core.specs.declared.acks.Acked.{Acked}
use Rattle.dy_core.specs.declared.holdings.Holding.{Holding}
use Rattle.dy_core.specs.declared.places.Place.{Place}
use Rattle.dy_core.specs.declared.steps.Step.{Step}
use Rattle.dy_core.specs.declared.steps.Step.TheVariants.{Issue, Hold, Release, Fetch, Ack}
use Rattle.dy_dots.proofs.SameDots.{same_dot_is}
use Rattle.dy_core.proofs.Ordered.{past_is_known, same_version}
use Rattle.dy_core.proofs.Standing.{stands_from}
use Rattle.dy_core.proofs.Kept.{IsSound, Named}
use Rattle.dy_core.proofs.Named.{named_gives}
use Rattle.dy_core.proofs.OverLogs.{log_sound}
use Rattle.dy_core.proofs.NextVersion.{last_is, version_is, meets_issue}
use Rattle.dy_core.proofs.Meeting.{after_push}
use Rattle.dy_core.proofs.Keeping.{meets_hold, meets_release, meets_ack}

-- the next dot is in no past that a context gives
not_named : (layout : Layout) (w : World) → IsSound layout w → (versions : List Version) → IsSameRow versions w.versions → (node : ℕ) (key : List ℕ)
    (context : DotSet) (d : Dot) → d.node ≡ node → d.counter ≡ last_in versions node key + 1 → named_in versions key context d ≡ true → ⊥
not_named layout w sound versions same node key context d node_is counter_is named =
    ⊎_elim
    (λ own. below n.version ((same n.version).0 n.in_list) n.key_is (same_dot_is n.version.dot d own))
    (λ past.
    let k = past_is_known w.versions sound.ordered n.version ((same n.version).0 n.in_list) d past in
    below k.version k.in_list (k.key_is ∙ n.key_is) k.dot_is)
    (or_cases (same_dot n.version.dot d) (set.contains n.version.past d) n.reaches)
  where
    n : Named versions key context d
    n = named_gives versions key context d named

    below : (u : Version) → Contains w.versions u → u.key ≡ key → u.dot ≡ d → ⊥
    below u inside key_is dot_is =
        let bound = (sound.counted u inside).1 in
        let u_counter : u.dot.counter ≡ d.counter = ap (λ x. x.counter) dot_is in
        let u_node : u.dot.node ≡ node = ap (λ x. x.node) dot_is ∙ node_is in
        let last_here : w.counters u.dot.node u.key ≡ w.counters node key = λ i. w.counters (u_node i) (key_is i) in
        let last = last_is layout w sound versions same node key in
        absurd (omega arith)

module _ (layout : Layout) (steps : List Step) (versions : List Version) (held : List Holding) (acked : List Acked)
    (old : IsAfter layout steps versions held acked) (s : Step) (allowed : IsAllowed layout (world_after steps) s) where
  w : World
  w = world_after steps

  sound : IsSound layout (world_after steps)
  sound = log_sound layout steps old.is_legal

  -- the lists after the step, where the step is this one
  goes : (t : Step) → s ≡ t → (new_versions : List Version) (new_held : List Holding) (new_acked : List Acked) →
      Meets (world_after_step (world_after steps) t) new_versions new_held new_acked → IsAfter layout (steps ++ s ∷ []) new_versions new_held new_acked
  goes t is new_versions new_held new_acked meets =
      after_push layout steps s new_versions versions new_held held new_acked acked old allowed
      (subst (λ x. Meets (world_after_step (world_after steps) x) new_versions new_held new_acked) (sym is) meets)

  pub room_is : (node : ℕ) (key : List ℕ) (context : DotSet) (value : Option (List ℕ)) → s ≡ Issue node key context value →
      last_in versions node key < 1000000
  room_is node key context value is =
      let a = subst (IsAllowed layout (world_after steps)) is allowed in
      subst (λ n. n < 1000000) (sym (last_is layout (world_after steps) sound versions old.meets.versions_are node key)) a.1

  pub fresh_is : (node : ℕ) (key : List ℕ) (context : DotSet) →
      named_in versions key context (record { node = node; counter = last_in versions node key + 1 }) ≡ false
  fresh_is node key context =
      let d : Dot = record { node = node; counter = last_in versions node key + 1 } in
      ⊎_elim (λ yes. absurd (not_named layout (world_after steps) sound versions old.meets.versions_are node key context d refl refl yes)) (λ no. no)
      (cases_Bool (named_in versions key context d))

  pub issue_goes : (node : ℕ) (key : List ℕ) (context : DotSet) (value : Option (List ℕ)) → s ≡ Issue node key context value →
      (v : Version) → v.key ≡ key → v.dot.node ≡ node → v.dot.counter ≡ last_in versions node key + 1 →
      ((d : Dot) → set.contains v.past d ≡ named_in versions key context d) → v.value ≡ value →
      (new : List Version) → new ≡ versions ++ v ∷ [] → IsAfter layout (steps ++ s ∷ []) new held acked
  issue_goes node key context value is v key_is node_is counter_is past_is value_is new grown =
      subst (λ vs. IsAfter layout (steps ++ s ∷ []) vs held acked) (sym grown)
      (goes (Issue node key context value) is (versions ++ v ∷ []) held acked
      (meets_issue layout (world_after steps) sound versions held acked old.meets node key context value v
      (version_is layout (world_after steps) sound versions held acked old.meets node key context value v key_is node_is counter_is past_is value_is)))

  pub agree_is : (p : Place) (row : Siblings) → s ≡ Hold p row → AreOneByDot (row_in held p.holder p.home row.key ++ row.versions)
  agree_is p row is u v in_u in_v dots =
      same_version (world_after steps).versions sound.ordered u v (of u in_u).0 (of v in_v).0 ((of u in_u).1 ∙ sym (of v in_v).1) dots
    where
      of : (x : Version) → Contains (row_in held p.holder p.home row.key ++ row.versions) x → Contains (world_after steps).versions x × (x.key ≡ row.key)
      of x inside =
          ⊎_elim
          (λ l. let at = stands_from (world_after steps) p.holder p.home row.key x ((old.meets.rows_are p.holder p.home row.key x).0 l) in (at.made, at.key_is))
          (λ r.
          let a = subst (IsAllowed layout (world_after steps)) is allowed in
          let m = All-contains (λ x. (x.key ≡ row.key) × Contains (world_after steps).versions x) row.versions x a.1 r in (m.1, m.0))
          (Contains-append_cases (row_in held p.holder p.home row.key) row.versions x inside)

  pub hold_goes : (p : Place) (row : Siblings) → s ≡ Hold p row → (new : List Holding) →
      ((merged : Siblings) × (merged.key ≡ row.key) × IsSameRow merged.versions (merge (row_in held p.holder p.home row.key) row.versions)
      × (new ≡ kept held (record { holder = p.holder; home = p.home; row = merged }))) →
      IsAfter layout (steps ++ s ∷ []) versions new acked
  hold_goes p row is new h =
      let a = subst (IsAllowed layout (world_after steps)) is allowed in
      subst (λ hs. IsAfter layout (steps ++ s ∷ []) versions hs acked) (sym h.3)
      (goes (Hold p row) is versions (kept held (record { holder = p.holder; home = p.home; row = h.0 })) acked
      (meets_hold (world_after steps) sound.ordered versions held acked old.meets p.holder p.home row a.1 h.0 h.1 h.2))

  pub release_goes : (p : Place) (key : List ℕ) (d : Dot) → s ≡ Release p key d → (new : List Holding) →
      new ≡ kept held (record { holder = p.holder; home = p.home; row = record { key = key; versions = without (row_in held p.holder p.home key) d } }) →
      IsAfter layout (steps ++ s ∷ []) versions new acked
  release_goes p key d is new h =
      subst (λ hs. IsAfter layout (steps ++ s ∷ []) versions hs acked) (sym h)
      (goes (Release p key d) is versions
      (kept held (record { holder = p.holder; home = p.home; row = record { key = key; versions = without (row_in held p.holder p.home key) d } })) acked
      (meets_release (world_after steps) versions held acked old.meets p.holder p.home key d
      (record { key = key; versions = without (row_in held p.holder p.home key) d }) refl refl))

  pub fetch_goes : (p : Place) (key : List ℕ) → s ≡ Fetch p key → IsAfter layout (steps ++ s ∷ []) versions held acked
  fetch_goes p key is = goes (Fetch p key) is versions held acked old.meets

  pub ack_goes : (key : List ℕ) (d : Dot) (count : ℕ) → s ≡ Ack key d count → (new : List Acked) →
      new ≡ put ack_cmp acked (record { key = key; dot = d; w = count }) → IsAfter layout (steps ++ s ∷ []) versions held new
  ack_goes key d count is new h =
      subst (λ bs. IsAfter layout (steps ++ s ∷ []) versions held bs) (sym h)
      (goes (Ack key d count) is versions held (put ack_cmp acked (record { key = key; dot = d; w = count }))
      (meets_ack (world_after steps) versions held acked old.meets (record { key = key; dot = d; w = count })))

pub fetch_answers : (layout : Layout) (steps : List Step) (versions : List Version) (held : List Holding) (acked : List Acked) →
    IsAfter layout steps versions held acked → (s : Step) (p : Place) (key : List ℕ) → s ≡ Fetch p key →
    IsSameRow (row_in held p.holder p.home key) (row_answered (world_after steps) s)
fetch_answers layout steps versions held acked old s p key is =
    subst (λ x. IsSameRow (row_in held p.holder p.home key) (row_answered (world_after steps) x)) (sym is) (old.meets.rows_are p.holder p.home key)
