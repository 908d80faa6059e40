-- Why a job is refused, and how it ends then.
use Rattle.std.proofs.Common.{◌≡◌, ◌≢◌, ◌↔◌, ◌∙◌, ℕ, List, ap, inl, inr, refl, subst, sym, ⊎_elim}
use Rattle.std.proofs.lemmas.Bool.{true≢false}
use Rattle.std.specs.Prelude.{◌⊎◌, Bool, true, false, Option, Result, Ok, Err, IfErr, IsErrAnd}
use Rattle.std.specs.Prelude.{IsErrOf, OnErr, OnOk, is_ok}
use Rattle.dy_dots.specs.declared.faults.Fault.{Fault}
use Rattle.dy_dots.specs.declared.faults.Fault.TheVariants.{OutOfMemory, SharesMissing, TooMany}
use Rattle.dy_ring.specs.Rings.{Tokens}
use Rattle.dy_script.specs.Reading.{ScriptParts, script_of_text}
use Rattle.dy_lines.specs.declared.stops.Stopped.{Stopped}
use Rattle.dy_lines.specs.declared.stops.Stopped.TheVariants.{Refused, Output}
use Rattle.dy_plans.specs.Openings.{options_for}
use Rattle.dy_plans.specs.Refusals.{IsFirstRefusal, IsStoppedBy, IsStoppedOnlyBy}
use Rattle.dy_plans.specs.RingLines.{IsRingMade, lists_of}
use Rattle.dy_cli.specs.Jobs.{IsSpelt}
use Rattle.dy_serve.specs.Refusals.{CutsService}
use Rattle.dy_cli.specs.Refusals.{AreRefused, HasClusterFault, HasRingFault, HasServiceFault}
use Rattle.dy_cli.specs.Refusals.{IsHaltedBy, IsHaltedFor, RefusesCluster, RefusesRing}

abbrev script_or : ScriptParts → Result ScriptParts Fault → ScriptParts
script_or s (Ok x) = x
script_or s (Err e) = s

abbrev fault_or : Fault → Result ScriptParts Fault → Fault
fault_or f (Ok x) = f
fault_or f (Err e) = e

-- bytes spell one script
one_script : (bytes : List ℕ) (s t : ScriptParts) → IsSpelt bytes s → IsSpelt bytes t → t ≡ s
one_script bytes s t this that = ap (script_or s) (sym that ∙ this)

-- or they spell none for one fault
one_fault : (bytes : List ℕ) (e f : Fault) → script_of_text bytes ≡ Err e →
    script_of_text bytes ≡ Err f → e ≡ f
one_fault bytes e f this that = ap (fault_or e) (sym this ∙ that)

-- and not both
not_both : {X : Type 0} (bytes : List ℕ) (s : ScriptParts) (f : Fault) → IsSpelt bytes s →
    script_of_text bytes ≡ Err f → X
not_both bytes s f this that = absurd (true≢false (ap is_ok (sym this ∙ that)))

-- want of memory for a ring comes first
memory_first : (s : ScriptParts) (made : Result Tokens Fault) → IsErrOf made OutOfMemory →
    IsFirstRefusal made (options_for s) OutOfMemory
memory_first s made memory =
    subst (λ (m : Result Tokens Fault). IsFirstRefusal m (options_for s) OutOfMemory) (sym memory)
    refl

-- memory ran out, there were too many sessions, or one was not handed in
abbrev pub IsOneOfThree : Fault → Type 0
IsOneOfThree f = (f ≡ OutOfMemory) ⊎ (f ≡ TooMany) ⊎ (f ≡ SharesMissing)

module _ {T : Type 0} where
  -- what follows from what an Ok says
  pub on_ok : {E P Q : Type 0} (r : Result T E) → OnOk r P → (P → Q) → OnOk r Q
  on_ok (Ok x) p follows = follows p
  on_ok (Err e) p follows = tt

  -- and from an Ok that is known
  pub of_ok : {E P : Type 0} (r : Result T E) → OnOk r P → is_ok r ≡ true → P
  of_ok (Ok x) p ok = p
  of_ok (Err e) p ok = absurd (true≢false (sym ok))

  -- one refusal stops as the other does
  pub stopped_alike : (e f : Fault) → e ≡ f →
      IsErrOf {T = T} {E = Stopped} (Err (Refused e)) (Refused f)
  stopped_alike e f same = ap (λ (x : Fault). Err (Refused x)) same

  abbrev stop_or : Fault → Result T Stopped → Fault
  stop_or f (Ok x) = f
  stop_or f (Err (Refused e)) = e
  stop_or f (Err (Output e)) = f

  -- what stops by a refusal stops by that one
  pub refusal_of : (e f : Fault) → IsErrOf {T = T} {E = Stopped} (Err (Refused e)) (Refused f) →
      e ≡ f
  refusal_of e f same = ap (stop_or f) same

  abbrev is_refusal : Result T Stopped → Bool
  is_refusal (Ok x) = false
  is_refusal (Err (Refused e)) = true
  is_refusal (Err (Output e)) = false

  -- what is Ok, or a lost output, is no refusal
  pub no_refusal : {X : Type 0} (r : Result T Stopped) (f : Fault) → is_refusal r ≡ false →
      IsErrOf r (Refused f) → X
  no_refusal r f none same = absurd (true≢false (sym (ap is_refusal same) ∙ none))

  -- bytes that are refused as they are read are refused for their fault, or for want of memory
  pub unread_halts : (Has : ScriptParts → Fault → Type 0) (bytes : List ℕ) (e : Fault)
      (out : Option (List ℕ)) → (e ≡ OutOfMemory) ⊎ (script_of_text bytes ≡ Err e) →
      IsHaltedBy {T = T} (AreRefused Has bytes) (Err (Refused e)) out out
  unread_halts Has bytes e out why f this =
      ⊎_elim (λ memory. (inr (stopped_alike e OutOfMemory memory), refl))
      (λ none.
      ⊎_elim (λ same. (inl (stopped_alike e f (one_fault bytes e f none same)), refl))
      (λ spelt. not_both bytes spelt.0 e spelt.1 none)
      this)
      why

  -- and for no other
  pub unread_only : (Has : ScriptParts → Fault → Type 0) (bytes : List ℕ) (e : Fault) →
      (e ≡ OutOfMemory) ⊎ (script_of_text bytes ≡ Err e) →
      IsHaltedFor {T = T} (AreRefused Has bytes) (Err (Refused e))
  unread_only Has bytes e why f same =
      let is = refusal_of e f same in
      ⊎_elim (λ memory. inr (inl (sym is ∙ memory)))
      (λ none. inl (inl (subst (λ (x : Fault). script_of_text bytes ≡ Err x) is none)))
      why

  -- what is refused of a script that was read has not to do with its bytes
  spelt_halts : (Has : ScriptParts → Fault → Type 0) (bytes : List ℕ) (s : ScriptParts)
      (r : Result T Stopped) (before after : Option (List ℕ)) → IsSpelt bytes s →
      IsHaltedBy (Has s) r before after → IsHaltedBy (AreRefused Has bytes) r before after
  spelt_halts Has bytes s r before after is halts f this =
      ⊎_elim (λ none. not_both bytes s f is none)
      (λ spelt.
      halts f (subst (λ (t : ScriptParts). Has t f) (one_script bytes s spelt.0 is spelt.1) spelt.2))
      this

  -- a cluster is refused by what comes first
  pub cluster_halts : (bytes : List ℕ) (s : ScriptParts) (r : Result T Stopped)
      (before after : Option (List ℕ)) → IsSpelt bytes s → (made : Result Tokens Fault) →
      IsRingMade (lists_of s.layout) made →
      IsStoppedBy (IsFirstRefusal made (options_for s)) r before after →
      IsHaltedBy (AreRefused RefusesCluster bytes) r before after
  cluster_halts bytes s r before after is made ring stops =
      spelt_halts RefusesCluster bytes s r before after is
      (λ f refuses.
      ⊎_elim (λ first. (inl (stops f first).0, (stops f first).1))
      (λ memory.
      let stopped = stops OutOfMemory (memory_first s made memory) in (inr stopped.0, stopped.1))
      (refuses made ring))

  -- what stops a script that was read, or a failure, is all that does
  spelt_only : (Has : ScriptParts → Fault → Type 0) (Causes : Fault → Type 0) (bytes : List ℕ)
      (s : ScriptParts) (r : Result T Stopped) → IsSpelt bytes s →
      ((f : Fault) → Causes f → Has s f) → IsStoppedOnlyBy Causes r →
      IsHaltedFor (AreRefused Has bytes) r
  spelt_only Has Causes bytes s (Ok x) is has only f refused =
      no_refusal (Ok x) f refl refused
  spelt_only Has Causes bytes s (Err (Refused e)) is has only f refused =
      let same = refusal_of e f refused in
      ⊎_elim (λ cause. inl (inr (s, is, has f cause))) (λ fails. inr fails)
      (only f (ap (λ (x : Fault). Refused x) same))
  spelt_only Has Causes bytes s (Err (Output e)) is has only f refused =
      no_refusal (Err (Output e)) f refl refused

  -- a run is stopped by what comes first
  pub cluster_only : (bytes : List ℕ) (s : ScriptParts) (r : Result T Stopped) → IsSpelt bytes s →
      (made : Result Tokens Fault) → IsRingMade (lists_of s.layout) made →
      IsStoppedOnlyBy (IsFirstRefusal made (options_for s)) r →
      IsHaltedFor (AreRefused HasClusterFault bytes) r
  cluster_only bytes s r is made ring only =
      spelt_only HasClusterFault (IsFirstRefusal made (options_for s)) bytes s r is
      (λ f first. (made, ring, first))
      only

  -- and a service so too, or by what cuts it short
  pub service_only : (with_steps : Bool) (given before after : Option (List ℕ)) (bytes : List ℕ)
      (s : ScriptParts) (r : Result T Stopped) → IsSpelt bytes s → (made : Result Tokens Fault) →
      IsRingMade (lists_of s.layout) made →
      IsStoppedOnlyBy (λ f. IsFirstRefusal made (options_for s) f
      ⊎ CutsService s with_steps given before after f) r →
      IsHaltedFor (AreRefused (HasServiceFault with_steps given before after) bytes) r
  service_only with_steps given before after bytes s r is made ring only =
      spelt_only (HasServiceFault with_steps given before after)
      (λ f. IsFirstRefusal made (options_for s) f ⊎ CutsService s with_steps given before after f)
      bytes s r is (λ f. ⊎_elim (λ first. inl (made, ring, first)) (λ cuts. inr cuts)) only

  -- what is passed on was stopped by the same
  pub passed_on : (r : Result T Stopped) (s : Stopped) (Causes : Fault → Type 0) →
      IsErrAnd r (λ t. t ≡ s) → IsHaltedFor {T = T} Causes (Err s) → IsHaltedFor Causes r
  passed_on (Ok x) s Causes gives only f refused = no_refusal (Ok x) f refl refused
  passed_on (Err t) s Causes gives only f refused =
      only f (ap (λ (x : Stopped). Err x) (sym gives) ∙ refused)

  -- a ring by its own refusal
  pub ring_halts : (bytes : List ℕ) (s : ScriptParts) (r : Result T Stopped)
      (before after : Option (List ℕ)) → IsSpelt bytes s → (made : Result Tokens Fault) →
      IsRingMade (lists_of s.layout) made →
      ((f : Fault) → IsErrOf r (Refused f) ↔ IsErrOf made f) →
      OnErr made (after ≡ before) →
      IsHaltedBy (AreRefused RefusesRing bytes) r before after
  ring_halts bytes s r before after is made ring same untouched =
      let stays : (f : Fault) → IsErrOf made f → after ≡ before = λ f e.
      subst (λ (m : Result Tokens Fault). OnErr m (after ≡ before)) e untouched in
      spelt_halts RefusesRing bytes s r before after is
      (λ f refuses.
      ⊎_elim (λ e. (inl ((same f).1 e), stays f e))
      (λ memory. (inr ((same OutOfMemory).1 memory), stays OutOfMemory memory))
      (refuses made ring))

  -- which is its only one
  pub ring_only : (bytes : List ℕ) (s : ScriptParts) (r : Result T Stopped) → IsSpelt bytes s →
      (made : Result Tokens Fault) → IsRingMade (lists_of s.layout) made →
      ((f : Fault) → IsErrOf r (Refused f) ↔ IsErrOf made f) →
      IsHaltedFor (AreRefused HasRingFault bytes) r
  ring_only bytes s r is made ring same f refused =
      inl (inr (s, is, (made, ring, (same f).0 refused)))

  -- a storm is refused as a run of clients is
  pub storm_only : (r : Result T Stopped) →
      IfErr r (λ stopped. (f : Fault) → stopped ≡ Refused f → IsOneOfThree f) →
      IsHaltedFor (λ f. f ≡ TooMany) r
  storm_only (Ok x) none f refused = no_refusal (Ok x) f refl refused
  storm_only (Err (Refused e)) only f refused =
      let is = refusal_of e f refused in
      let why = subst (λ (x : Fault). IsOneOfThree x) is (only e refl) in
      ⊎_elim (λ memory. inr (inl memory))
      (⊎_elim (λ many. inl many) (λ missing. inr (inr missing)))
      why
  storm_only (Err (Output e)) only f refused = no_refusal (Err (Output e)) f refl refused
