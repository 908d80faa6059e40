-- A version that is made next has a dot of its own, which lies in no past.
use Rattle.std.proofs.Common.{◌≡◌, ℕ, ◌<◌, ◌≤◌, List, [], ◌∷◌, ◌++◌, ⊎_elim, refl, sym, ap, ◌∙◌}
use Rattle.std.proofs.Common.{subst, arith, not, true, false}
use Rattle.std.specs.FinSet as set
use Rattle.std.specs.List.{Contains}
use Rattle.std.proofs.lemmas.List.Elements.{Contains-append_cases, Contains-push}
use Rattle.std.proofs.lemmas.List.Elements.{Contains-push_cases}
use Rattle.dy_dots.specs.declared.dots.TheConstants.{MAX_COUNTER}
use Rattle.dy_siblings.specs.Siblings.{AreOneByDot, is_past, merge}
use Rattle.dy_siblings.specs.declared.versions.Version.{Version}
use Rattle.dy_core.specs.Worlds.{Layout, World}
use Rattle.dy_core.specs.Steps.{after_issue, version_made}
use Rattle.dy_core.specs.declared.steps.Step.TheVariants.{Issue}
use Rattle.dy_siblings.proofs.Members.{in_head, in_tail, in_cases, not_in_nil, filter_in, none_from}
use Rattle.dy_core.specs.Logs.{Known}
use Rattle.dy_core.proofs.Ordered.{AreOf, IsOrdered, past_is_known}
use Rattle.dy_core.proofs.Kept.{IsSound, step_sound}
use Rattle.dy_core.proofs.OverLogs.{log_sound}
use Rattle.dy_shares.specs.Shares.{NodePart, steps_of}
use Rattle.dy_book.specs.Books.{BookParts, MayIssue, world_of}
use Rattle.dy_node.specs.Stored.{Shows, Stored, versions_at}
use Rattle.dy_node.specs.inside.Agreed.{IsAgreed}
use Rattle.dy_node.proofs.Worldly.{matches_world}
use Rattle.dy_node.proofs.Kept.{made_at, one_by_dot}

pub next_one : (layout : Layout) (b : BookParts) (p : NodePart) (s : Stored) (home : ℕ)
    (v : Version) → IsAgreed layout b p → Shows p s → MayIssue b p.node v →
    b.options.counter_limit ≤ MAX_COUNTER →
    AreOneByDot (versions_at s.rooms home v.key ++ v ∷ [])
next_one layout b p s home v agreed is may few = one_by_dot w1 layout sound1 v.key
    (versions_at s.rooms home v.key ++ v ∷ []) of
  where
    counter : (world_of b).counters p.node v.key < MAX_COUNTER
    counter = let left = may.counter_left in omega (arith, left, few)

    w1 : World
    w1 = after_issue (world_of b) (version_made (world_of b) p.node v.key may.next.context v.value)

    sound1 : IsSound layout (after_issue (world_of b)
        (version_made (world_of b) p.node v.key may.next.context v.value))
    sound1 = step_sound layout (world_of b) (log_sound layout (steps_of b.log) agreed.legal)
        (Issue p.node v.key may.next.context v.value) (may.next.known, counter)

    of : AreOf (version_made (world_of b) p.node v.key may.next.context
        v.value ∷ (world_of b).versions) v.key (versions_at s.rooms home v.key ++ v ∷ [])
    of u h =
        ⊎_elim
        (λ old.
        let m = made_at (world_of b) s.rooms.node home v.key (versions_at s.rooms home v.key)
        ((matches_world (steps_of b.log) p agreed.belongs s is).rows_are home v.key) u old in (
          in_tail (version_made (world_of b) p.node v.key may.next.context v.value) u
              (world_of b).versions m.0,
          m.1,
        ))
        (λ new.
        ⊎_elim
        (λ same. (
          subst (λ x. Contains (version_made (world_of b) p.node v.key may.next.context
              v.value ∷ (world_of b).versions) x) (sym may.next.is_made ∙ sym same)
              (in_head (version_made (world_of b) p.node v.key may.next.context v.value)
              (world_of b).versions),
          ap (λ (x : Version). x.key) same,
        ))
        (λ none. absurd (not_in_nil u none))
        (in_cases v u [] new))
        (Contains-append_cases (versions_at s.rooms home v.key) (v ∷ []) u h)

-- the next version is made after all others
made_last : (layout : Layout) (b : BookParts) (p : NodePart) (v : Version) → IsAgreed layout b p →
    MayIssue b p.node v → b.options.counter_limit ≤ MAX_COUNTER →
    IsOrdered (v ∷ (world_of b).versions)
made_last layout b p v agreed may few =
    let left = may.counter_left in
    let counter : (world_of b).counters p.node v.key < MAX_COUNTER = omega (arith, left, few) in
    let made : Version =
    version_made (world_of b) p.node v.key may.next.context v.value in
    let sound : IsSound layout (after_issue (world_of b) made) =
    step_sound layout (world_of b) (log_sound layout (steps_of b.log) agreed.legal)
    (Issue p.node v.key may.next.context v.value) (may.next.known, counter) in
    subst (λ (x : Version). IsOrdered (x ∷ (world_of b).versions)) (sym may.next.is_made)
    sound.ordered

-- so its dot lies in no past, and the merge keeps it
pub next_stays : (layout : Layout) (b : BookParts) (p : NodePart) (s : Stored) (home : ℕ)
    (v : Version) → IsAgreed layout b p → Shows p s → MayIssue b p.node v →
    b.options.counter_limit ≤ MAX_COUNTER →
    Contains (merge (versions_at s.rooms home v.key) (v ∷ [])) v
next_stays layout b p s home v agreed is may few =
    filter_in (λ x. not (is_past all x.dot)) all v here (ap not alone)
  where
    older : List Version
    older = (world_of b).versions

    all : List Version
    all = versions_at s.rooms home v.key ++ v ∷ []

    ordered : IsOrdered (v ∷ older)
    ordered = made_last layout b p v agreed may few

    here : Contains all v
    here = Contains-push (versions_at s.rooms home v.key) v

    unknown : (x : Version) → x.key ≡ v.key → Known older x v.dot → ⊥
    unknown x key known =
        ordered.0.fresh known.version known.in_list (known.key_is ∙ key) known.dot_is

    in_none : (x : Version) → Contains all x → set.contains x.past v.dot ≡ true → ⊥
    in_none x h e =
        ⊎_elim
        (λ old.
        let m = made_at (world_of b) s.rooms.node home v.key (versions_at s.rooms home v.key)
        ((matches_world (steps_of b.log) p agreed.belongs s is).rows_are home v.key) x old in
        unknown x m.1 (past_is_known older ordered.1 x m.0 v.dot e))
        (λ same. unknown v refl
        (ordered.0.past_known v.dot
        (subst (λ (y : Version). set.contains y.past v.dot ≡ true) (sym same) e)))
        (Contains-push_cases (versions_at s.rooms home v.key) v x h)

    alone : is_past all v.dot ≡ false
    alone = none_from (λ x. set.contains x.past v.dot) all in_none
