-- Why a plan, a begin or a settle is refused.
use Rattle.std.proofs.Common.{◌≡◌, ◌↔◌, ◌⊎◌, ℕ, true, false, true≢false, length, Option, Some, None}
use Rattle.std.proofs.Common.{List, inl, inr, ⊎_elim, refl, sym, ◌∙◌, subst, arith}
use Rattle.std.specs.declared.result.Result.{Result}
use Rattle.std.specs.declared.result.Result.TheVariants.{Ok, Err}
use Rattle.std.specs.Result.{IsErrOf, result_err}
use Rattle.dy_dots.specs.Dots.{DotSet}
use Rattle.dy_dots.specs.declared.dots.Dot.{Dot}
use Rattle.dy_dots.specs.declared.faults.Fault.{Fault}
use Rattle.dy_dots.specs.declared.faults.Fault.TheVariants.{OutOfMemory, CounterFull}
use Rattle.dy_dots.specs.declared.faults.Fault.TheVariants.{ContextUnknown, VersionsFull}
use Rattle.dy_dots.specs.declared.faults.Fault.TheVariants.{StepsFull, Down}
use Rattle.dy_core.specs.Steps.{IsKnown}
use Rattle.dy_core.specs.Listings.{IsLeastUnknown}
use Rattle.dy_book.specs.Books.{BookParts, HasRoom, HasVersionsLeft, LacksRoom, world_of}
use Rattle.dy_shares.specs.Shares.{NodePart, ReceiptParts}
use Rattle.dy_node.specs.Stored.{Rooms}
use Rattle.dy_node.specs.Nodes.{NodeState, HasCounterLeft, LacksCounter}
use Rattle.dy_node.specs.Settling.{AreReleased, ReleaseRefused, SettleRefused}
use Rattle.dy_node.specs.inside.Chosen.{AreCounted}
use Rattle.dy_node.proofs.SameCounts.{same_count}
use Rattle.dy_node.specs.Refusals.{BeginRefused, PlanRefused}
use Rattle.dy_node.proofs.Causes.{counter_not_full, counter_not_unknown, counter_not_versions}
use Rattle.dy_node.proofs.Causes.{down_not_counter, down_not_memory, down_not_steps}
use Rattle.dy_node.proofs.Causes.{down_not_unknown, down_not_versions, memory_not_counter}
use Rattle.dy_node.proofs.Causes.{memory_not_full, memory_not_unknown, memory_not_versions}
use Rattle.dy_node.proofs.Causes.{no_error, none_told, one_error, some_is, told_from}
use Rattle.dy_node.proofs.Causes.{told_of}

-- ---- a plan

left_not_lacks : (b : BookParts) (node : ℕ) (key : List ℕ) → HasCounterLeft b node key →
    LacksCounter b node key → ⊥
left_not_lacks b node key left lacks = omega (arith, left, lacks)

pub plan_full : (b : BookParts) (node : ℕ) (key : List ℕ) (context : DotSet) →
    LacksCounter b node key → PlanRefused b node key context (Some CounterFull)
plan_full b node key context lacks =
    record {
      counter_full = ((λ is. lacks), (λ is. refl));
      context_unknown = λ d. (
        (λ is. absurd (counter_not_unknown d is)),
        (λ there. absurd (left_not_lacks b node key there.0 lacks)),
      );
      versions_full = (
        (λ is. absurd (counter_not_versions is)),
        (λ there. absurd (left_not_lacks b node key there.0 lacks)),
      );
      steps_full = (
        (λ is. absurd (counter_not_full is)),
        (λ there. absurd (left_not_lacks b node key there.0 lacks)),
      );
      only = λ f is. inl (sym (some_is CounterFull f is));
    }

plan_told : {X : Type 0} (b : BookParts) (node : ℕ) (key : List ℕ) (context : DotSet)
    (r : Result X Fault) → HasCounterLeft b node key →
    ((d : Dot) → IsErrOf r (ContextUnknown d) ↔ IsLeastUnknown (world_of b).versions key context d)
    →
    (IsErrOf r VersionsFull ↔ (IsKnown (world_of b) key context × (HasVersionsLeft b → ⊥))) →
    (IsErrOf r StepsFull ↔ (IsKnown (world_of b) key context × HasVersionsLeft b × LacksRoom b 2)) →
    ((f : Fault) → IsErrOf r f →
    ((d : Dot) × (f ≡ ContextUnknown d))
    ⊎ ((f ≡ VersionsFull) ⊎ ((f ≡ StepsFull) ⊎ (f ≡ OutOfMemory)))) →
    PlanRefused b node key context (result_err r)
plan_told b node key context r left unknown versions full only =
    record {
      counter_full = (
        (λ is. absurd (not_counter (told_from r CounterFull is))),
        (λ lacks. absurd (left_not_lacks b node key left lacks)),
      );
      context_unknown = λ d. (
        (λ is. (left, (unknown d).0 (told_from r (ContextUnknown d) is))),
        (λ there. told_of r (ContextUnknown d) ((unknown d).1 there.1)),
      );
      versions_full = (
        (λ is. (left, versions.0 (told_from r VersionsFull is))),
        (λ there. told_of r VersionsFull (versions.1 there.1)),
      );
      steps_full = (
        (λ is. (left, full.0 (told_from r StepsFull is))),
        (λ there. told_of r StepsFull (full.1 there.1)),
      );
      only = λ f is. inr (only f (told_from r f is));
    }
  where
    named : (d : Dot) → CounterFull ≡ ContextUnknown d → ⊥
    named d is = cc

    of_versions : CounterFull ≡ VersionsFull → ⊥
    of_versions is = cc

    of_steps : CounterFull ≡ StepsFull → ⊥
    of_steps is = cc

    of_memory : CounterFull ≡ OutOfMemory → ⊥
    of_memory is = cc

    not_counter : IsErrOf r CounterFull → ⊥
    not_counter is =
        ⊎_elim (λ u. named u.0 u.1)
        (λ rest. ⊎_elim (λ v. of_versions v)
        (λ last. ⊎_elim (λ s. of_steps s) (λ m. of_memory m) last) rest)
        (only CounterFull is)

-- the version was planned
pub plan_done : {X : Type 0} (b : BookParts) (node : ℕ) (key : List ℕ) (context : DotSet) (x : X) →
    HasCounterLeft b node key →
    ((d : Dot) → IsErrOf {T = X} {E = Fault} (Ok x) (ContextUnknown d) ↔ IsLeastUnknown
    (world_of b).versions key context d) →
    (IsErrOf {T = X} {E = Fault} (Ok x) VersionsFull ↔
    (IsKnown (world_of b) key context × (HasVersionsLeft b → ⊥))) →
    (IsErrOf {T = X} {E = Fault} (Ok x) StepsFull ↔
    (IsKnown (world_of b) key context × HasVersionsLeft b × LacksRoom b 2)) →
    PlanRefused b node key context None
plan_done b node key context x left unknown versions full =
    plan_told b node key context (Ok x) left unknown versions full
    (λ f is. absurd (no_error x f is))

-- the plan was refused
pub plan_by : {X : Type 0} (b : BookParts) (node : ℕ) (key : List ℕ) (context : DotSet)
    (e : Fault) → HasCounterLeft b node key →
    ((d : Dot) → IsErrOf {T = X} {E = Fault} (Err e) (ContextUnknown d) ↔ IsLeastUnknown
    (world_of b).versions key context d) →
    (IsErrOf {T = X} {E = Fault} (Err e) VersionsFull ↔
    (IsKnown (world_of b) key context × (HasVersionsLeft b → ⊥))) →
    (IsErrOf {T = X} {E = Fault} (Err e) StepsFull ↔
    (IsKnown (world_of b) key context × HasVersionsLeft b × LacksRoom b 2)) →
    ((d : Dot) × (e ≡ ContextUnknown d))
    ⊎ ((e ≡ VersionsFull) ⊎ ((e ≡ StepsFull) ⊎ (e ≡ OutOfMemory))) →
    PlanRefused b node key context (Some e)
plan_by {X} b node key context e left unknown versions full only =
    plan_told {X = X} b node key context (Err e) left unknown versions full
    (λ f is. subst (λ g. ((d : Dot) × (g ≡ ContextUnknown d))
    ⊎ ((g ≡ VersionsFull) ⊎ ((g ≡ StepsFull) ⊎ (g ≡ OutOfMemory))))
    (sym (one_error {X = X} e f is)) only)

-- what could be planned is refused for want of memory alone
pub plan_memory : (b : BookParts) (node : ℕ) (key : List ℕ) (context : DotSet) →
    PlanRefused b node key context None →
    PlanRefused b node key context (Some OutOfMemory)
plan_memory b node key context planned =
    record {
      counter_full = (
        (λ is. absurd (memory_not_counter is)),
        (λ there. absurd (none_told CounterFull (planned.counter_full.1 there))),
      );
      context_unknown = λ d. (
        (λ is. absurd (memory_not_unknown d is)),
        (λ there. absurd (none_told (ContextUnknown d) ((planned.context_unknown d).1 there))),
      );
      versions_full = (
        (λ is. absurd (memory_not_versions is)),
        (λ there. absurd (none_told VersionsFull (planned.versions_full.1 there))),
      );
      steps_full = (
        (λ is. absurd (memory_not_full is)),
        (λ there. absurd (none_told StepsFull (planned.steps_full.1 there))),
      );
      only = λ f is. inr (inr (inr (inr (sym (some_is OutOfMemory f is)))));
    }

plan_not_down : (b : BookParts) (node : ℕ) (key : List ℕ) (context : DotSet) (told : Option Fault) →
    PlanRefused b node key context told → told ≡ Some Down → ⊥
plan_not_down b node key context told refused is =
    ⊎_elim (λ c. down_not_counter c)
    (λ rest. ⊎_elim (λ u. down_not_unknown u.0 u.1)
    (λ more. ⊎_elim (λ v. down_not_versions v)
    (λ last. ⊎_elim (λ s. down_not_steps s) (λ m. down_not_memory m) last) more) rest)
    (refused.only Down is)

-- ---- a begin

pub begin_down : (b : BookParts) (n : NodeState) (key : List ℕ) (context : DotSet) →
    n.is_up ≡ false → BeginRefused b n key context (Some Down)
begin_down b n key context down =
    record { down = ((λ is. down), (λ is. refl)); up = λ up. absurd (true≢false (sym up ∙ down)) }

pub begin_up : (b : BookParts) (n : NodeState) (key : List ℕ) (context : DotSet)
    (told : Option Fault) → n.is_up ≡ true → PlanRefused b n.part.node key context told →
    BeginRefused b n key context told
begin_up b n key context told up refused =
    record {
      down = (
        (λ is. absurd (plan_not_down b n.part.node key context told refused is)),
        (λ down. absurd (true≢false (sym up ∙ down))),
      );
      up = λ is. refused;
    }

-- the book, and the share, are those that were lent on
pub begin_agreed : (b c : BookParts) (p : NodePart) (n : NodeState) (key : List ℕ)
    (context : DotSet) (told : Option Fault) → b ≡ c → p ≡ n.part → n.is_up ≡ true →
    PlanRefused b p.node key context told → BeginRefused c n key context told
begin_agreed b c p n key context told same share up refused =
    begin_up c n key context told up
    (subst (λ (q : NodePart). PlanRefused c q.node key context told) share
    (subst (λ x. PlanRefused x p.node key context told) same refused))

-- ---- a settle

-- those counted are more than the steps left
pub release_full : (b : BookParts) (r : Rooms) (receipts : List ReceiptParts) (count : ℕ) →
    AreCounted r receipts count → LacksRoom b count → ReleaseRefused b r receipts (Some StepsFull)
release_full b r receipts count are lacks =
    record {
      steps_full = (
        (λ is. (are.released, are.are_released, subst (λ n. LacksRoom b n) are.count_is lacks)),
        (λ there. refl),
      );
      only = λ f is. inl (sym (some_is StepsFull f is));
    }

-- steps are left for those counted
pub release_memory : (b : BookParts) (r : Rooms) (receipts : List ReceiptParts) (count : ℕ) →
    AreCounted r receipts count → HasRoom b count → ReleaseRefused b r receipts (Some OutOfMemory)
release_memory b r receipts count are room =
    record {
      steps_full = (
        (λ is. absurd (memory_not_full is)),
        (λ there.
            let as_many = same_count r receipts there.0 are.released there.1 are.are_released in
            absurd (omega (arith, as_many, are.count_is, room, there.2))),
      );
      only = λ f is. inr (sym (some_is OutOfMemory f is));
    }

release_told : {X : Type 0} (b : BookParts) (r : Rooms) (receipts chosen : List ReceiptParts)
    (res : Result X Fault) → AreReleased r receipts chosen →
    (IsErrOf res StepsFull ↔ LacksRoom b (length chosen)) →
    ((f : Fault) → IsErrOf res f → (f ≡ StepsFull) ⊎ (f ≡ OutOfMemory)) →
    ReleaseRefused b r receipts (result_err res)
release_told b r receipts chosen res are full only =
    record {
      steps_full = (
        (λ is. (chosen, are, full.0 (told_from res StepsFull is))),
        (λ there. told_of res StepsFull
            (full.1 (subst (λ count. LacksRoom b count)
            (same_count r receipts there.0 chosen there.1 are) there.2))),
      );
      only = λ f is. only f (told_from res f is);
    }

-- the hints were given up
pub release_done : {X : Type 0} (b : BookParts) (r : Rooms) (receipts chosen : List ReceiptParts)
    (x : X) → AreReleased r receipts chosen →
    (IsErrOf {T = X} {E = Fault} (Ok x) StepsFull ↔ LacksRoom b (length chosen)) →
    ReleaseRefused b r receipts None
release_done b r receipts chosen x are full = release_told b r receipts chosen (Ok x) are full
    (λ f is. absurd (no_error x f is))

-- the book refused
pub release_by : {X : Type 0} (b : BookParts) (r : Rooms) (receipts chosen : List ReceiptParts)
    (e : Fault) → AreReleased r receipts chosen →
    (IsErrOf {T = X} {E = Fault} (Err e) StepsFull ↔ LacksRoom b (length chosen)) →
    (e ≡ StepsFull) ⊎ (e ≡ OutOfMemory) → ReleaseRefused b r receipts (Some e)
release_by {X} b r receipts chosen e are full only =
    release_told {X = X} b r receipts chosen (Err e) are full
    (λ f is. subst (λ g. (g ≡ StepsFull) ⊎ (g ≡ OutOfMemory)) (sym (one_error {X = X} e f is))
    only)

pub settle_down : (b : BookParts) (n : NodeState) (receipts : List ReceiptParts) → n.is_up ≡ false →
    SettleRefused b n receipts (Some Down)
settle_down b n receipts down = record
    { down = ((λ is. down), (λ is. refl)); up = λ up. absurd (true≢false (sym up ∙ down)) }

pub settle_up : (b : BookParts) (n : NodeState) (receipts : List ReceiptParts)
    (told : Option Fault) → n.is_up ≡ true → ReleaseRefused b n.rooms receipts told →
    SettleRefused b n receipts told
settle_up b n receipts told up refused =
    record {
      down = (
        (λ is. absurd (⊎_elim (λ s. down_not_steps s) (λ m. down_not_memory m)
            (refused.only Down is))),
        (λ down. absurd (true≢false (sym up ∙ down))),
      );
      up = λ is. refused;
    }
