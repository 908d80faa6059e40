-- A hint that a node keeps is held in the world, so its home is one of its row's key.
use Rattle.std.proofs.Common.{◌≡◌, ℕ, ◌<◌, ◌==◌, Bool, true, false, ◌&&◌, ◌||◌, not, cond}
use Rattle.std.proofs.Common.{List, [], ◌∷◌, length, map, Bor, None, Some, refl, sym, ap, ◌∙◌, subst, arith}
use Rattle.std.specs.List.{All, Contains}
use Rattle.std.specs.FinMap as maps
use Rattle.std.proofs.lemmas.Bool.{eqb-true, eq-eqb}
use Rattle.std.proofs.lemmas.List.Elements.{All-map, All-weaker}
use Rattle.dy_siblings.specs.Siblings.{Siblings}
use Rattle.dy_siblings.specs.declared.versions.Version.{Version}
use Rattle.dy_siblings.proofs.Members.{in_head}
use Rattle.dy_hint_store.specs.Hints.{IsHint, shown}
use Rattle.dy_preference.specs.Preferences.{is_home, may_hold}
use Rattle.dy_core.specs.Worlds.{Layout}
use Rattle.dy_core.proofs.OverLogs.{log_sound}
use Rattle.dy_core.proofs.Standing.{stands_from}
use Rattle.dy_shares.specs.Shares.{NodePart, steps_of}
use Rattle.dy_book.specs.Books.{BookParts, world_of}
use Rattle.dy_node.specs.Stored.{Rooms, Stored, Shows, versions_at}
use Rattle.dy_node.specs.inside.Agreed.{IsAgreed}
use Rattle.dy_node.specs.inside.Placing.{IsHintOf}
use Rattle.dy_node.proofs.RoomLemmas.{found_versions}
use Rattle.dy_node.proofs.Kept.{state_holds}

-- where a node has no hint for itself, each hint that is listed is for another
pub kept_shown : (r : Rooms) → ((key : List ℕ) → maps.get r.hints (r.node, key) ≡ None) →
    (hints : List (ℕ × Bor Siblings)) → All (λ h. IsHint r.hints (shown h)) hints →
    All (IsHintOf r) (map shown hints)
kept_shown r none hints kept = All-map (IsHintOf r) shown hints
    (All-weaker (λ h. IsHint r.hints (shown h)) (λ h. IsHintOf r (shown h))
    (λ h is. (other h is, is)) hints kept)
  where
    other : (h : ℕ × Bor Siblings) → IsHint r.hints (shown h) → h.0 ≡ r.node → ⊥
    other h is same =
        let both : None ≡ Some h.1.now = sym (none h.1.now.key)
        ∙ ap (λ n. maps.get r.hints (n, h.1.now.key)) (sym same) ∙ is.0 in cc

-- who holds for a home holds for one that may hold for itself
home_itself : (homes : List ℕ) (holder home : ℕ) → may_hold homes holder home ≡ true →
    may_hold homes home home ≡ true
home_itself homes holder home may = elim (is_home homes home) as (λ b.
    (b && ((holder == home) || not (is_home homes holder))) ≡ true →
    (b && ((home == home) || not b)) ≡ true) [
      | true ↦ λ _. ap (λ b. b || false) (eq-eqb home home refl)
      | false ↦ λ no. no
    ] may

-- a row with a version has a first one
first_of : (vs : List Version) → 0 < length vs → (v : Version) × Contains vs v
first_of [] filled = absurd (omega (arith, filled))
first_of (v ∷ vs) filled = (v, in_head v vs)

-- a hint is what is kept of its key for its home
hint_versions : (r : Rooms) (hint : ℕ × Siblings) → IsHintOf r hint →
    hint.1.versions ≡ versions_at r hint.0 hint.1.key
hint_versions r hint is = found_versions r hint.0 hint.1.key hint.1.key hint.1
    (sym (by_home (hint.0 == r.node) refl)) refl
  where
    by_home : (b : Bool) → (hint.0 == r.node) ≡ b →
        cond b (maps.get r.rows hint.1.key) (maps.get r.hints (hint.0, hint.1.key)) ≡ Some hint.1
    by_home true here = absurd (is.0 (eqb-true hint.0 r.node here))
    by_home false _ = is.1.0

module _ (layout : Layout) (b : BookParts) (p : NodePart) (s : Stored) (agreed : IsAgreed layout b p)
    (is : Shows p s) where
  hint_for_home : (hint : ℕ × Siblings) → IsHintOf s.rooms hint →
      may_hold (layout.homes hint.1.key) hint.0 hint.0 ≡ true
  hint_for_home hint kept =
      let first = first_of hint.1.versions kept.1.1 in
      let inside = subst (λ vs. Contains vs first.0) (hint_versions s.rooms hint kept) first.1 in
      let held = stands_from (world_of b) p.node hint.0 hint.1.key first.0
      ((state_holds layout b p s agreed is hint.0 hint.1.key first.0).0 inside) in
      home_itself (layout.homes hint.1.key) p.node hint.0
      ((log_sound layout (steps_of b.log) agreed.legal).held_sound p.node hint.0 hint.1.key
      first.0.dot held.is_held).0

  -- so each of the hints is for a home of its row's key
  pub hints_for_homes : (hints : List (ℕ × Siblings)) → All (IsHintOf s.rooms) hints →
      All (λ h. may_hold (layout.homes h.1.key) h.0 h.0 ≡ true) hints
  hints_for_homes hints kept = All-weaker (IsHintOf s.rooms)
      (λ h. may_hold (layout.homes h.1.key) h.0 h.0 ≡ true) hint_for_home hints kept
