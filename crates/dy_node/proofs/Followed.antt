-- A version that is made has in its past each dot of the context that it was given: none of them is
-- the least that is unknown, so each is known; and what is known is named.
use Rattle.std.proofs.Common.{◌≡◌, ◌↔◌, ℕ, zero, suc, ◌<◌, ◌≤◌, ◌&&◌, true, List, ⊎_elim}
use Rattle.std.proofs.Common.{ap, ◌∙◌, arith}
use Rattle.std.specs.FinSet as set
use Rattle.std.specs.declared.result.Result.TheVariants.{Ok}
use Rattle.std.specs.Result.{IsErrOf}
use Rattle.std.proofs.lemmas.Bool.{and_parts, cases_Bool, cases_lt, or_left}
use Rattle.dy_dots.specs.Dots.{DotSet, IsDotBefore, same_dot}
use Rattle.dy_dots.specs.declared.dots.Dot.{Dot}
use Rattle.dy_dots.specs.declared.faults.Fault.{Fault}
use Rattle.dy_dots.specs.declared.faults.Fault.TheVariants.{ContextUnknown}
use Rattle.dy_dots.proofs.SameDots.{same_dot_is}
use Rattle.dy_dots.proofs.Sets.{dot_total}
use Rattle.dy_siblings.specs.Siblings.{same_key}
use Rattle.dy_siblings.specs.declared.versions.Version.{Version}
use Rattle.dy_siblings.proofs.Members.{any_gives}
use Rattle.dy_siblings.proofs.SameKeys.{same_key_is}
use Rattle.dy_core.specs.Worlds.{is_issued}
use Rattle.dy_core.specs.Steps.{past_of}
use Rattle.dy_core.specs.Listings.{IsLeastUnknown}
use Rattle.dy_core.proofs.Kept.{past_from}
use Rattle.dy_node.proofs.Causes.{no_error}

module _ (vs : List Version) (key : List ℕ) (context : DotSet)
    (none : (d : Dot) → IsLeastUnknown vs key context d → ⊥) where
  -- a dot is known where all before it are
  known_next : (d : Dot) → set.contains context d ≡ true →
      ((e : Dot) → set.contains context e ≡ true → IsDotBefore e d → is_issued vs key e ≡ true) →
      is_issued vs key d ≡ true
  known_next d named before =
      ⊎_elim (λ known. known)
      (λ unknown. absurd
      (none d (record { in_context = named; not_issued = unknown; least = before })))
      (cases_Bool (is_issued vs key d))

  -- so are those of one node, where those of the nodes before are
  known_of : (n : ℕ) →
      ((e : Dot) → e.node < n → set.contains context e ≡ true → is_issued vs key e ≡ true) →
      (m : ℕ) (d : Dot) → d.node ≡ n → d.counter < m → set.contains context d ≡ true →
      is_issued vs key d ≡ true
  known_of n below zero d at lt named = absurd (omega (arith, lt))
  known_of n below (suc m) d at lt named = known_next d named (λ e inside before.
      ⊎_elim (λ (less : e.node < d.node). below e (omega (arith, less, at)) inside)
      (λ same. let less = same.1 in
      known_of n below m e (same.0 ∙ at) (omega (arith, less, lt)) inside)
      before)

  known_below : (n : ℕ) (d : Dot) → d.node < n → set.contains context d ≡ true →
      is_issued vs key d ≡ true
  known_below zero d lt named = absurd (omega (arith, lt))
  known_below (suc n) d lt named =
      ⊎_elim (λ less. known_below n d less named)
      (λ (more : n ≤ d.node).
      known_of n (known_below n) (suc d.counter) d (omega (arith, lt, more)) (omega arith) named)
      (cases_lt d.node n)

  -- the past that the context gives has each of its dots
  past_follows : set.is_subset context (past_of vs key context) ≡ true
  past_follows = set.contains-is_subset dot_total context (past_of vs key context) (λ d named.
      let made = any_gives (λ v. same_key v.key key && same_dot v.dot d) vs
      (known_below (suc d.node) d (omega arith) named) in
      let both = and_parts (same_key made.item.key key) (same_dot made.item.dot d) made.passes in
      past_from vs key context d (record {
        version = made.item;
        in_list = made.in_list;
        key_is = same_key_is made.item.key key both.0;
        named = ap (set.contains context) (same_dot_is made.item.dot d both.1) ∙ named;
        reaches = or_left (same_dot made.item.dot d) (set.contains made.item.past d) both.1;
      }))

-- what is planned follows its context
pub planned_follows : {X : Type 0} (x : X) (vs : List Version) (key : List ℕ) (context : DotSet) →
    ((d : Dot) → IsErrOf {T = X} {E = Fault} (Ok x) (ContextUnknown d)
    ↔ IsLeastUnknown vs key context d) →
    set.is_subset context (past_of vs key context) ≡ true
planned_follows x vs key context refused = past_follows vs key context
    (λ d least. no_error x (ContextUnknown d) ((refused d).1 least))
