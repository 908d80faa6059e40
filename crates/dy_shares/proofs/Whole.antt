-- What all shares together say is what the world has.
use Rattle.std.proofs.Common.{◌≡◌, ℕ, ◌+◌, ◌<◌, ◌≤◌, ◌==◌, Bool, ◌&&◌, not, true, false, cond}
use Rattle.std.proofs.Common.{true≢false, List, [], ◌∷◌, Some, ◌⊎◌, inl, inr, ⊎_elim, refl, sym, ap}
use Rattle.std.proofs.Common.{◌∙◌, subst, arith}
use Rattle.std.specs.List.{All, Contains}
use Rattle.std.specs.List.{AllByRecursion as ByRecursion}
use Rattle.std.proofs.lemmas.Bool.{cases_Bool, eq-eqb, eqb-true}
use Rattle.std.proofs.lemmas.List.Elements.{All-contains, Contains-append_left}
use Rattle.std.proofs.lemmas.List.Elements.{Contains-append_right, Contains-append_cases}
use Rattle.std.proofs.lemmas.List.Elements.{recursion_from_All}
use Rattle.dy_dots.specs.Dots.{same_dot}
use Rattle.dy_dots.specs.declared.dots.Dot.{Dot}
use Rattle.dy_siblings.specs.Siblings.{same_key, has_dot, merge}
use Rattle.dy_core.specs.Worlds.{World, empty_world, row_at}
use Rattle.dy_core.specs.Steps.{world_after_step, same_place}
use Rattle.dy_core.specs.Logs.{world_from, world_after}
use Rattle.dy_core.specs.declared.acks.Acked.{Acked}
use Rattle.dy_core.specs.declared.steps.Step.{Step}
use Rattle.dy_core.specs.declared.steps.Step.TheVariants.{Issue, Hold, Release, Fetch, Ack}
use Rattle.dy_siblings.proofs.Members.{not_in_nil, in_head, in_tail, in_cases}
use Rattle.dy_shares.specs.declared.entries.Entry.{Entry}
use Rattle.dy_shares.specs.Shares.{Account, AckTold, AreAll, BelongsTo, IsAckOf, IsOwnedStep}
use Rattle.dy_shares.specs.Shares.{NodePart, SessionBelongsTo, SessionPart, ack_at, acks_from}
use Rattle.dy_shares.specs.Shares.{names, session_acks, shows_held, steps_of}

apart : (nodes p holder : ℕ) → nodes ≤ p → holder < nodes → (p == holder) ≡ false
apart nodes p holder high low =
    ⊎_elim
    (λ yes. let same : p ≡ holder = eqb-true p holder yes in
    absurd (omega (arith, same, high, low)))
    (λ no. no)
    (cases_Bool (p == holder))

low_step : (nodes sessions : ℕ) (w : World) →
    ((p o : ℕ) (k : List ℕ) (d : Dot) → nodes ≤ p → w.holdings p o k d ≡ false) →
    (e : Entry) → IsOwnedStep nodes sessions e.told e.step →
    (s : Step) → e.step ≡ s → IsOwnedStep nodes sessions e.told s →
    (p o : ℕ) (k : List ℕ) (d : Dot) → nodes ≤ p → (world_after_step w s).holdings p o k d ≡ false
low_step nodes sessions w low e own (Issue node key context value) is o p h k d high =
    low p h k d high
low_step nodes sessions w low e own (Hold place row) is o p h k d high =
    ap (λ b. cond (b && ((h == place.home) && same_key k row.key))
    (has_dot (merge (row_at w place.holder place.home row.key) row.versions) d) (w.holdings p h k d))
    (apart nodes p place.holder high o.1)
    ∙ low p h k d high
low_step nodes sessions w low e own (Release place key x) is o p h k d high =
    ap (λ b. b && not (same_place place.holder place.home key p h k && same_dot d x)) (low p h k d high)
low_step nodes sessions w low e own (Fetch place key) is o p h k d high = low p h k d high
low_step nodes sessions w low e own (Ack key x n) is o p h k d high = low p h k d high

module _ (nodes sessions : ℕ) where
  abbrev Owned : Entry → Type 0
  Owned e = IsOwnedStep nodes sessions e.told e.step

  low_from : (w : World) →
      ((p o : ℕ) (k : List ℕ) (d : Dot) → nodes ≤ p → w.holdings p o k d ≡ false) →
      (log : List Entry) → ByRecursion Owned log →
      (p o : ℕ) (k : List ℕ) (d : Dot) → nodes ≤ p →
      (world_from w (steps_of log)).holdings p o k d ≡ false
  low_from w low [] all = low
  low_from w low (e ∷ es) all =
      low_from (world_after_step w e.step) (low_step nodes sessions w low e all.0 e.step refl all.0)
      es all.1

  -- only nodes hold
  pub holders_low : (log : List Entry) → All Owned log → (p o : ℕ) (k : List ℕ) (d : Dot) →
      (world_after (steps_of log)).holdings p o k d ≡ true → p < nodes
  holders_low log all p o k d h =
      ⊎_elim (λ low. low)
      (λ high. absurd (true≢false
      (sym h ∙ low_from empty_world (λ _ _ _ _ _. refl) log
      (recursion_from_All Owned log all) p o k d high)))
      (by_order p nodes)
    where
      by_order : (a b : ℕ) → (a < b) ⊎ (b ≤ a)
      by_order a b = grind (arith)

pub record Told (ts : List AckTold) (x : Acked) : Type 0 where
  pub told : AckTold
  pub in_list : Contains ts told
  pub is_of : IsAckOf told x

self_named : (j : ℕ) → names j (Some j) ≡ true
self_named j = eq-eqb j j refl

acks_grow : (s : Step) (w : World) (x : Acked) → Contains w.acks x →
    Contains (world_after_step w s).acks x
acks_grow (Issue node key context value) w x h = h
acks_grow (Hold place row) w x h = h
acks_grow (Release place key d) w x h = h
acks_grow (Fetch place key) w x h = h
acks_grow (Ack key d n) w x h = in_tail (record { key = key; dot = d; w = n }) x w.acks h

acks_stay : (w : World) (log : List Entry) (x : Acked) → Contains w.acks x →
    Contains (world_from w (steps_of log)).acks x
acks_stay w [] x h = h
acks_stay w (e ∷ es) x h = acks_stay (world_after_step w e.step) es x (acks_grow e.step w x h)

-- what the sessions were told is acknowledged
told_is : (w : World) (at session : ℕ) (log : List Entry) (x : Acked) (t : AckTold) →
    Contains (acks_from at session log) t → IsAckOf t x →
    Contains (world_from w (steps_of log)).acks x
told_is w at session [] x t h is = absurd (not_in_nil t h)
told_is w at session (e ∷ es) x t h is =
    ⊎_elim
    (λ here. acks_stay (world_after_step w e.step) es x (now (names session e.told) e.step here))
    (λ later. told_is (world_after_step w e.step) (at + 1) session es x t later is)
    (Contains-append_cases (cond (names session e.told) (ack_at at e.step) [])
    (acks_from (at + 1) session es) t h)
  where
    now : (b : Bool) (s : Step) → Contains (cond b (ack_at at s) []) t →
        Contains (world_after_step w s).acks x
    now false s i = absurd (not_in_nil t i)
    now true (Issue node key context value) i = absurd (not_in_nil t i)
    now true (Hold place row) i = absurd (not_in_nil t i)
    now true (Release place key d) i = absurd (not_in_nil t i)
    now true (Fetch place key) i = absurd (not_in_nil t i)
    now true (Ack key d n) i =
        ⊎_elim
        (λ same.
        let u : Acked = record { key = key; dot = d; w = n } in
        let ku : key ≡ x.key = sym (ap (λ a. a.key) same) ∙ is.0 in
        let du : d ≡ x.dot = sym (ap (λ a. a.dot) same) ∙ is.1 in
        let wu : n ≡ x.w = sym (ap (λ a. a.w) same) ∙ is.2 in
        let u_is : u ≡ x = λ j. record { key = ku j; dot = du j; w = wu j } in
        subst (Contains (u ∷ w.acks)) u_is (in_head u w.acks))
        (λ none. absurd (not_in_nil t none))
        (in_cases (record { at = at; key = key; dot = d; w = n }) t [] i)

module _ (nodes sessions : ℕ) where
  pub record ToldOne (at : ℕ) (log : List Entry) (x : Acked) : Type 0 where
    pub session : ℕ
    pub low : session < sessions
    pub told : Told (acks_from at session log) x

  -- what is acknowledged, a session was told
  acked_is : (w : World) (at : ℕ) (log : List Entry) →
      ByRecursion (λ e. IsOwnedStep nodes sessions e.told e.step) log → (x : Acked) →
      Contains (world_from w (steps_of log)).acks x → Contains w.acks x ⊎ ToldOne at log x
  acked_is w at [] all x h = inl h
  acked_is w at (e ∷ es) all x h =
      ⊎_elim
      (λ before. now e.step all.0 before)
      (λ later. inr (record
      { session = later.session; low = later.low; told = more later.session later.told }))
      (acked_is (world_after_step w e.step) (at + 1) es all.1 x h)
    where
      more : (session : ℕ) → Told (acks_from (at + 1) session es) x →
          Told (acks_from at session (e ∷ es)) x
      more session t = record {
        told = t.told;
        in_list =
            Contains-append_right (cond (names session e.told) (ack_at at e.step) [])
            (acks_from (at + 1) session es) t.told t.in_list;
        is_of = t.is_of;
      }

      first : (session : ℕ) (s : Step) (t : AckTold) → names session e.told ≡ true →
          Contains (ack_at at s) t → e.step ≡ s → IsAckOf t x →
          Told (acks_from at session (e ∷ es)) x
      first session s t named i same is =
          record {
            told = t;
            in_list = Contains-append_left (cond (names session e.told) (ack_at at e.step) [])
                (acks_from (at + 1) session es) t
                (subst (λ b. Contains (cond b (ack_at at e.step) []) t) (sym named)
                (subst (λ u. Contains (ack_at at u) t) (sym same) i));
            is_of = is;
          }

      by_step : (s : Step) → e.step ≡ s → IsOwnedStep nodes sessions e.told s →
          Contains (world_after_step w s).acks x → Contains w.acks x ⊎ ToldOne at (e ∷ es) x
      by_step (Issue node key context value) same own i = inl i
      by_step (Hold place row) same own i = inl i
      by_step (Release place key d) same own i = inl i
      by_step (Fetch place key) same own i = inl i
      by_step (Ack key d n) same own i =
          ⊎_elim
          (λ here. inr (record {
            session = own.0;
            low = own.2;
            told = first own.0 (Ack key d n) (record { at = at; key = key; dot = d; w = n })
                (ap (names own.0) own.1 ∙ self_named own.0)
                (in_head (record { at = at; key = key; dot = d; w = n }) []) same
                (sym (ap (λ a. a.key) here), sym (ap (λ a. a.dot) here), sym (ap (λ a. a.w) here));
          }))
          (λ old. inl old)
          (in_cases (record { key = key; dot = d; w = n }) x w.acks i)

      now : (s : Step) → IsOwnedStep nodes sessions e.told e.step →
          Contains (world_after_step w e.step).acks x → Contains w.acks x ⊎ ToldOne at (e ∷ es) x
      now s own i = by_step e.step refl own i

-- what a session was told, whose share belongs to the log, is acknowledged in it
pub told_logged : (log : List Entry) (r : ℕ) (s : SessionPart) → SessionBelongsTo log r s →
    (t : AckTold) → Contains s.acks t → (x : Acked) → IsAckOf t x →
    Contains (world_after (steps_of log)).acks x
told_logged log r s b t told x is =
    told_is empty_world 1 s.session log x t (subst (λ ts. Contains ts t) b.acks_are told) is

module _ (nodes r : ℕ) (a : Account) (parts : List NodePart) (tellings : List SessionPart)
    (all : AreAll nodes r a parts tellings) where
  pub held_from : (holder home : ℕ) (key : List ℕ) (d : Dot) →
      (world_after (steps_of a.log)).holdings holder home key d ≡ true →
      (p : NodePart) × Contains parts p × (p.node ≡ holder) × (shows_held p home key d ≡ true)
  held_from holder home key d h =
      let f = all.each_node holder
      (holders_low nodes a.sessions a.log all.each_entry holder home key d h) in
      let p = f.1 in
      let i : Contains parts p = (f.0, f.2, f.3) in
      let b = All-contains (λ q. BelongsTo (steps_of a.log) q) parts p all.nodes_belong i in (
        p,
        i,
        f.4,
        b.shows_holdings home key d
            ∙ ap (λ n. (world_after (steps_of a.log)).holdings n home key d) f.4 ∙ h,
      )

  pub held_in : (holder home : ℕ) (key : List ℕ) (d : Dot) →
      ((p : NodePart) × Contains parts p × (p.node ≡ holder) × (shows_held p home key d ≡ true)) →
      (world_after (steps_of a.log)).holdings holder home key d ≡ true
  held_in holder home key d f =
      let b = All-contains (λ q. BelongsTo (steps_of a.log) q) parts f.0 all.nodes_belong f.1 in
      ap (λ n. (world_after (steps_of a.log)).holdings n home key d) (sym f.2)
      ∙ (sym (b.shows_holdings home key d) ∙ f.3)

  pub acked_from : (x : Acked) → Contains (world_after (steps_of a.log)).acks x →
      (s : SessionPart) × Contains tellings s × ((t : AckTold) × Contains s.acks t × IsAckOf t x)
  acked_from x h =
      ⊎_elim
      (λ none. absurd (not_in_nil x none))
      (λ one.
      let f = all.each_session one.session one.low in
      let s = f.1 in
      let i : Contains tellings s = (f.0, f.2, f.3) in
      let b = All-contains (λ q. SessionBelongsTo a.log r q) tellings s all.sessions_belong i in
      let is : session_acks one.session a.log ≡ s.acks =
      ap (λ n. session_acks n a.log) (sym f.4) ∙ sym b.acks_are in (
        s,
        i,
        (
          one.told.told,
          subst (λ ts. Contains ts one.told.told) is one.told.in_list,
          one.told.is_of,
        ),
      ))
      (acked_is nodes a.sessions empty_world 1 a.log
      (recursion_from_All (λ e. IsOwnedStep nodes a.sessions e.told e.step) a.log
      all.each_entry) x h)

  pub acked_in : (x : Acked) →
      ((s : SessionPart) × Contains tellings s × ((t : AckTold) × Contains s.acks t × IsAckOf t x))
      →
      Contains (world_after (steps_of a.log)).acks x
  acked_in x f =
      let b = All-contains (λ q. SessionBelongsTo a.log r q) tellings f.0 all.sessions_belong f.1 in
      told_logged a.log r f.0 b f.2.0 f.2.1 x f.2.2
