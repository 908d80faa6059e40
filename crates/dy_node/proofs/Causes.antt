-- Refusals, and their causes.
use Rattle.std.proofs.Common.{◌≡◌, ◌↔◌, ◌⊎◌, true, false, true≢false, Option, Some, None}
use Rattle.std.proofs.Common.{inl, inr, ⊎_elim, refl, sym, ◌∙◌, ap, subst, arith}
use Rattle.std.specs.declared.result.Result.{Result}
use Rattle.std.specs.declared.result.Result.TheVariants.{Ok, Err}
use Rattle.std.specs.Result.{IfErr, IsErrOf, result_err}
use Rattle.dy_dots.specs.declared.dots.Dot.{Dot}
use Rattle.dy_dots.specs.declared.faults.Fault.{Fault}
use Rattle.dy_dots.specs.declared.faults.Fault.TheVariants.{OutOfMemory, CounterFull}
use Rattle.dy_dots.specs.declared.faults.Fault.TheVariants.{ContextUnknown, VersionsFull, NotIssued}
use Rattle.dy_dots.specs.declared.faults.Fault.TheVariants.{StepsFull, Down}
use Rattle.dy_siblings.specs.Siblings.{Siblings}
use Rattle.dy_core.specs.Worlds.{AreMadeOf}
use Rattle.dy_book.specs.Books.{BookParts, HasRoom, LacksRoom, world_of}
use Rattle.dy_index.specs.Readings.{IsLeastNotIssued}
use Rattle.dy_index.proofs.Incoming.{none_least}
use Rattle.dy_node.specs.Nodes.{NodeState}
use Rattle.dy_node.specs.Refusals.{FetchRefused, HoldRefused}
use Rattle.dy_node.specs.Refusals.{StoreRefused}

-- ---- refusals are told apart

pub some_is : (e f : Fault) → Some e ≡ Some f → e ≡ f
some_is e f is = cc

pub none_told : (f : Fault) → None ≡ Some f → ⊥
none_told f is = cc

pub memory_not_full : Some OutOfMemory ≡ Some StepsFull → ⊥
memory_not_full is = cc

memory_not_named : (d : Dot) → Some OutOfMemory ≡ Some (NotIssued d) → ⊥
memory_not_named d is = cc

pub memory_not_unknown : (d : Dot) → Some OutOfMemory ≡ Some (ContextUnknown d) → ⊥
memory_not_unknown d is = cc

pub memory_not_counter : Some OutOfMemory ≡ Some CounterFull → ⊥
memory_not_counter is = cc

pub memory_not_versions : Some OutOfMemory ≡ Some VersionsFull → ⊥
memory_not_versions is = cc

pub counter_not_unknown : (d : Dot) → Some CounterFull ≡ Some (ContextUnknown d) → ⊥
counter_not_unknown d is = cc

pub counter_not_versions : Some CounterFull ≡ Some VersionsFull → ⊥
counter_not_versions is = cc

pub counter_not_full : Some CounterFull ≡ Some StepsFull → ⊥
counter_not_full is = cc

down_not_full : Some Down ≡ Some StepsFull → ⊥
down_not_full is = cc

pub down_not_counter : Down ≡ CounterFull → ⊥
down_not_counter is = cc

pub down_not_unknown : (d : Dot) → Down ≡ ContextUnknown d → ⊥
down_not_unknown d is = cc

down_not_named : (d : Dot) → Down ≡ NotIssued d → ⊥
down_not_named d is = cc

pub down_not_versions : Down ≡ VersionsFull → ⊥
down_not_versions is = cc

pub down_not_steps : Down ≡ StepsFull → ⊥
down_not_steps is = cc

pub down_not_memory : Down ≡ OutOfMemory → ⊥
down_not_memory is = cc

-- what a result tells
pub told_of : {X : Type 0} (r : Result X Fault) (f : Fault) → IsErrOf r f → result_err r ≡ Some f
told_of r f is = ap result_err is

pub told_from : {X : Type 0} (r : Result X Fault) (f : Fault) → result_err r ≡ Some f → IsErrOf r f
told_from (Ok x) f is = absurd (none_told f is)
told_from (Err e) f is = ap Err (some_is e f is)

same_cause : {X : Type 0} (r : Result X Fault) (f : Fault) (cause : Type 0) →
    (IsErrOf r f ↔ cause) →
    (result_err r ≡ Some f) ↔ cause
same_cause r f cause both = (
  (λ is. both.0 (told_from r f is)),
  (λ there. told_of r f (both.1 there)),
)

-- ---- a hold

-- what was checked lacks memory alone
pub hold_memory : (b : BookParts) (row : Siblings) → AreMadeOf (world_of b) row.key row.versions →
    HasRoom b 1 → HoldRefused b row (Some OutOfMemory)
hold_memory b row made room =
    record {
      not_issued = λ d. (
        (λ is. absurd (memory_not_named d is)),
        (λ least. absurd (none_least (world_of b) row.key row.versions d made least)),
      );
      steps_full = (
        (λ is. absurd (memory_not_full is)),
        (λ lacks. absurd (omega (arith, lacks.1, room))),
      );
      only = λ f is. inr (inr (sym (some_is OutOfMemory f is)));
    }

hold_told : {X : Type 0} (b : BookParts) (row : Siblings) (r : Result X Fault) →
    ((d : Dot) → IsErrOf r (NotIssued d) ↔ IsLeastNotIssued (world_of b).versions row.versions d) →
    (IsErrOf r StepsFull ↔ (AreMadeOf (world_of b) row.key row.versions × LacksRoom b 1)) →
    ((f : Fault) → IsErrOf r f →
    ((d : Dot) × (f ≡ NotIssued d)) ⊎ ((f ≡ StepsFull) ⊎ (f ≡ OutOfMemory))) →
    HoldRefused b row (result_err r)
hold_told b row r not_issued full only =
    record {
      not_issued = λ d. same_cause r (NotIssued d)
          (IsLeastNotIssued (world_of b).versions row.versions d) (not_issued d);
      steps_full = same_cause r StepsFull
          (AreMadeOf (world_of b) row.key row.versions × LacksRoom b 1) full;
      only = λ f is. only f (told_from r f is);
    }

pub no_error : {X : Type 0} (x : X) (f : Fault) → IsErrOf {T = X} {E = Fault} (Ok x) f → ⊥
no_error x f is = none_told f (told_of (Ok x) f is)

pub one_error : {X : Type 0} (e f : Fault) → IsErrOf {T = X} {E = Fault} (Err e) f → f ≡ e
one_error e f is = sym (some_is e f (told_of (Err e) f is))

-- the row was held
pub hold_done : (b : BookParts) (row : Siblings) → AreMadeOf (world_of b) row.key row.versions →
    HasRoom b 1 → HoldRefused b row None
hold_done b row made room =
    record {
      not_issued = λ d. (
        (λ is. absurd (none_told (NotIssued d) is)),
        (λ least. absurd (none_least (world_of b) row.key row.versions d made least)),
      );
      steps_full = (
        (λ is. absurd (none_told StepsFull is)),
        (λ lacks. absurd (omega (arith, lacks.1, room))),
      );
      only = λ f is. absurd (none_told f is);
    }

-- the row was refused
pub hold_by : {X : Type 0} (b : BookParts) (row : Siblings) (e : Fault) →
    ((d : Dot) → IsErrOf {T = X} {E = Fault} (Err e) (NotIssued d) ↔ IsLeastNotIssued
    (world_of b).versions row.versions d) →
    (IsErrOf {T = X} {E = Fault} (Err e) StepsFull ↔
    (AreMadeOf (world_of b) row.key row.versions × LacksRoom b 1)) →
    ((d : Dot) × (e ≡ NotIssued d)) ⊎ ((e ≡ StepsFull) ⊎ (e ≡ OutOfMemory)) → HoldRefused b row
    (Some e)
hold_by {X} b row e not_issued full only =
    hold_told {X = X} b row (Err e) not_issued full
    (λ f is. subst (λ g. ((d : Dot) × (g ≡ NotIssued d)) ⊎ ((g ≡ StepsFull) ⊎ (g ≡ OutOfMemory)))
    (sym (one_error {X = X} e f is)) only)

hold_not_down : (b : BookParts) (row : Siblings) (told : Option Fault) → HoldRefused b row told →
    told ≡ Some Down → ⊥
hold_not_down b row told refused is =
    ⊎_elim (λ named. down_not_named named.0 named.1)
    (λ rest. ⊎_elim (λ full. down_not_steps full) (λ memory. down_not_memory memory) rest)
    (refused.only Down is)

-- ---- a store

pub store_down : (b : BookParts) (n : NodeState) (row : Siblings) → n.is_up ≡ false →
    StoreRefused b n row (Some Down)
store_down b n row down =
    record { down = ((λ is. down), (λ is. refl)); up = λ up. absurd (true≢false (sym up ∙ down)) }

pub store_up : (b : BookParts) (n : NodeState) (row : Siblings) (told : Option Fault) →
    n.is_up ≡ true → HoldRefused b row told → StoreRefused b n row told
store_up b n row told up refused =
    record {
      down = (
        (λ is. absurd (hold_not_down b row told refused is)),
        (λ down. absurd (true≢false (sym up ∙ down))),
      );
      up = λ is. refused;
    }

-- ---- a look

pub fetch_down : (b : BookParts) (n : NodeState) → n.is_up ≡ false → FetchRefused b n (Some Down)
fetch_down b n down =
    record {
      down = ((λ is. down), (λ is. refl));
      steps_full = (
        (λ is. absurd (down_not_full is)),
        (λ there. absurd (true≢false (sym there.0 ∙ down))),
      );
      only = λ f is. inl (sym (some_is Down f is));
    }

fetch_up : {X : Type 0} (b : BookParts) (n : NodeState) (r : Result X Fault) → n.is_up ≡ true →
    (IsErrOf r StepsFull ↔ LacksRoom b 1) →
    ((f : Fault) → IsErrOf r f → (f ≡ StepsFull) ⊎ (f ≡ OutOfMemory)) →
    FetchRefused b n (result_err r)
fetch_up b n r up full only =
    record {
      down = (
        (λ is. absurd (⊎_elim (λ at_end. down_not_steps at_end) (λ memory. down_not_memory memory)
            (only Down (told_from r Down is)))),
        (λ down. absurd (true≢false (sym up ∙ down))),
      );
      steps_full = (
        (λ is. (up, full.0 (told_from r StepsFull is))),
        (λ there. told_of r StepsFull (full.1 there.1)),
      );
      only = λ f is. inr (only f (told_from r f is));
    }

-- the node is up: a refusal of its fetch is one of the book
pub fetch_of : {X : Type 0} (b : BookParts) (n : NodeState) (r : Result X Fault) →
    n.is_up ≡ true → (IsErrOf r StepsFull ↔ LacksRoom b 1) →
    IfErr r (λ e. (e ≡ StepsFull) ⊎ (e ≡ OutOfMemory)) → FetchRefused b n (result_err r)
fetch_of b n (Ok x) up full only =
    fetch_up b n (Ok x) up full (λ f is. absurd (no_error x f is))
fetch_of {X} b n (Err e) up full only =
    fetch_up {X = X} b n (Err e) up full
    (λ f is. subst (λ g. (g ≡ StepsFull) ⊎ (g ≡ OutOfMemory)) (sym (one_error {X = X} e f is))
    only)
