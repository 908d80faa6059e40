-- What an audit's lists say of the world.
use Rattle.std.proofs.Common.{◌≡◌, ℕ, ◌↔◌, List, [], ◌∷◌, ◌++◌, map, refl, sym, ap}
use Rattle.std.proofs.Common.{◌∙◌, subst, ◌⊎◌, inl, inr, ⊎_elim, ◌+◌, ◌<◌, length, take, get_or, arith}
use Rattle.std.proofs.lemmas.List.{take_more}
use Rattle.std.proofs.lemmas.List.Sums.{sum_by-append}
use Rattle.std.specs.Prelude.{Result, Ok, Err, IfErr}
use Rattle.std.specs.List.{All, Contains, sum_by}
use Rattle.dy_core.specs.Worlds.{World, empty_world}
use Rattle.dy_core.specs.Steps.{world_after_step}
use Rattle.dy_core.specs.Logs.{world_from, world_after}
use Rattle.dy_core.specs.Listings.{ListsAcks}
use Rattle.dy_core.specs.Orders.{ack_cmp}
use Rattle.dy_core.specs.declared.acks.Acked.{Acked}
use Rattle.dy_core.specs.declared.steps.Step.{Step}
use Rattle.dy_core.specs.declared.steps.Step.TheVariants.{Issue, Hold, Release, Fetch, Ack}
use Rattle.dy_siblings.proofs.Members.{not_in_nil, in_head, in_tail, in_cases}
use Rattle.dy_core.proofs.Held.{acks_tie}
use Rattle.dy_core.proofs.Keeping.{all_from}
use Rattle.std.proofs.lemmas.List.Elements.{All-contains, Contains-append_cases}
use Rattle.dy_index.specs.Lists.{IsInOrder}
use Rattle.dy_shares.specs.Shares.{acks_of, HasAll, IsMissing, NodePart, SessionPart}
use Rattle.dy_shares.specs.Numbers.{AreNumbersOf}
use Rattle.dy_shares.specs.declared.step_numbers.StepNumbers.{StepNumbers}
use Rattle.dy_book.specs.Audits.{AreTold}
use Rattle.dy_dots.specs.declared.faults.Fault.{Fault}
use Rattle.dy_book.specs.declared.audits.AckedAt.{AckedAt}

-- the acks after some steps are those among them, and those before
steps_listed : (w : World) (ss : List Step) (a : Acked) →
    (Contains (acks_of ss) a ⊎ Contains w.acks a) ↔ Contains (world_from w ss).acks a
steps_listed w [] a = ((λ h. ⊎_elim (λ none. absurd (not_in_nil a none)) (λ old. old) h), inr)
steps_listed w (Issue node key context value ∷ ss) a =
    steps_listed (world_after_step w (Issue node key context value)) ss a
steps_listed w (Hold p row ∷ ss) a = steps_listed (world_after_step w (Hold p row)) ss a
steps_listed w (Release p key d ∷ ss) a = steps_listed (world_after_step w (Release p key d)) ss a
steps_listed w (Fetch p key ∷ ss) a = steps_listed (world_after_step w (Fetch p key)) ss a
steps_listed w (Ack key d n ∷ ss) a =
    let x : Acked = record { key = key; dot = d; w = n } in
    let rest = steps_listed (world_after_step w (Ack key d n)) ss a in (
      (λ h. rest.0 (⊎_elim
          (λ listed. ⊎_elim (λ is. inr (subst (Contains (x ∷ w.acks)) (sym is) (in_head x w.acks))) inl
          (in_cases x a (acks_of ss) listed))
          (λ old. inr (in_tail x a w.acks old)) h)),
      (λ h. ⊎_elim
          (λ listed. inl (in_tail x a (acks_of ss) listed))
          (λ old. ⊎_elim
          (λ is. inl (subst (Contains (x ∷ acks_of ss)) (sym is) (in_head x (acks_of ss)))) inr
          (in_cases x a w.acks old))
          (rest.1 h)),
    )

-- the acks of the steps, in order
pub acks_listed : (ss : List Step) (acks : List Acked) →
    IsInOrder ack_cmp (acks_of ss) acks → ListsAcks (world_after ss) acks
acks_listed ss acks order =
    record {
      same = λ a. (
        (λ h. (told a).0 (order.is_item a h)),
        (λ h. let t = order.tied a ((told a).1 h) in
            subst (Contains acks) (sym (acks_tie a t.0 t.2)) t.1),
      );
      in_order = order.in_order;
    }
  where
    told : (a : Acked) → Contains (acks_of ss) a ↔ Contains (world_after ss).acks a
    told a =
        let listed = steps_listed empty_world ss a in (
          (λ h. listed.0 (inl h)),
          (λ h. ⊎_elim (λ some. some) (λ none. absurd (not_in_nil a none)) (listed.1 h)),
        )

pub all_end : {X : Type 0} (P : X → Type 0) (xs : List X) (x : X) → All P xs → P x →
    All P (xs ++ x ∷ [])
all_end P xs x all this =
    all_from P (xs ++ x ∷ []) (λ y there.
    ⊎_elim
    (λ l. All-contains P xs y all l)
    (λ r. ⊎_elim (λ same. subst P (sym same) this) (λ none. absurd (not_in_nil y none))
    (in_cases x y [] r))
    (Contains-append_cases xs (x ∷ []) y there))

-- nothing is missing where all are there
pub not_both : (nodes sessions : ℕ) (parts : List NodePart) (tellings : List SessionPart) →
    IsMissing nodes sessions parts tellings →
    HasAll nodes sessions parts tellings → ⊥
not_both nodes sessions parts tellings missing all =
    ⊎_elim (λ a. a.2 (all.0 a.0 a.1)) (λ a. a.2 (all.1 a.0 a.1)) missing

pub faults_apart : Fault.SharesMissing ≡ Fault.OutOfMemory → ⊥
faults_apart e = cc

-- an ack more has its places
pub acks_go : (xs : List AckedAt) (x : AckedAt) (rest : List Acked) →
    map (λ (y : AckedAt). y.ack) (xs ++ x ∷ []) ++ rest ≡ map
    (λ (y : AckedAt). y.ack) xs ++ x.ack ∷ rest
acks_go [] x rest = refl
acks_go (y ∷ xs) x rest = ap (λ zs. y.ack ∷ zs) (acks_go xs x rest)

-- where both are so, each is so exactly where the other is
pub if_refused : {T E : Type 0} (r : Result T E) (A : E → Type 0) (B : Type 0) →
    IfErr r (λ e. A e × B) → IfErr r (λ e. A e ↔ B)
if_refused (Ok x) A B h = tt
if_refused (Err e) A B h = ((λ same. h.1), (λ missing. h.0))

-- and the first is so, or whatever else
pub if_first : {T E : Type 0} (r : Result T E) (A C : E → Type 0) (B : Type 0) →
    IfErr r (λ e. A e × B) → IfErr r (λ e. A e ⊎ C e)
if_first (Ok x) A C B h = tt
if_first (Err e) A C B h = inl h.0

-- the numbers that one session more was told
pub told_more : (ns : List StepNumbers) (ss : List SessionPart) (n : StepNumbers) (s : SessionPart) →
    AreTold ns ss → AreNumbersOf n s → AreTold (ns ++ n ∷ []) (ss ++ s ∷ [])
told_more [] [] n s told one = (one, tt)
told_more [] (t ∷ ss) n s told one = absurd told
told_more (m ∷ ns) [] n s told one = absurd told
told_more (m ∷ ns) (t ∷ ss) n s told one = (told.0, told_more ns ss n s told.1 one)

-- one session more
pub count_more : (count : SessionPart → ℕ) (ss : List SessionPart) (i : ℕ) (s : SessionPart) →
    i < length ss → s ≡ get_or ss i s →
    sum_by count (take i ss) + count s ≡ sum_by count (take (i + 1) ss)
count_more count ss i s lt is =
    let more = sym (sum_by-append count (take i ss) (s ∷ []))
    ∙ ap (λ y. sum_by count (take i ss ++ y ∷ [])) is
    ∙ sym (ap (sum_by count) (take_more ss i s lt)) in
    omega (arith, more)
