-- Which refusal comes first, and which others there are.
use Rattle.std.proofs.Common.{◌≡◌, ◌↔◌, ◌∙◌, Bool, true, false, ap, subst, sym, inl, inr, ⊎_elim}
use Rattle.std.proofs.lemmas.Bool.{true≢false}
use Rattle.std.specs.Prelude.{◌⊎◌, ℕ, Result, Ok, Err, IfErr, IsErrAnd, IsErrOf, OnOk, is_ok}
use Rattle.dy_dots.specs.declared.faults.Fault.{Fault}
use Rattle.dy_dots.specs.declared.faults.Fault.TheVariants.{BadQuorum, OutOfMemory, SharesMissing}
use Rattle.dy_dots.specs.declared.faults.Fault.TheVariants.{TooMany}
use Rattle.dy_ring.specs.Rings.{Tokens}
use Rattle.dy_book.specs.Limits.{AreLimits, IsQuorum}
use Rattle.dy_book.specs.declared.options.Options.{Options}
use Rattle.dy_lines.specs.Stops.{IsStoppedFor}
use Rattle.dy_lines.specs.declared.stops.Stopped.{Stopped}
use Rattle.dy_lines.specs.declared.stops.Stopped.TheVariants.{Refused, Output}
use Rattle.dy_plans.specs.Refusals.{HasFailed, IsFirstRefusal, IsStoppedOnlyBy}

abbrev tokens_refusal : Fault → Result Tokens Fault → Fault
tokens_refusal f (Ok x) = f
tokens_refusal f (Err e) = e

abbrev stop_fault : Fault → Stopped → Fault
stop_fault f (Refused e) = e
stop_fault f (Output e) = f

-- one refusal that stops this is the other
pub same_stop : (e f : Fault) → Refused e ≡ Refused f → e ≡ f
same_stop e f same = ap (stop_fault f) same

module _ {T : Type 0} where
  -- what is so whatever comes of a call is so where it is Ok
  pub on_ok : {E : Type 0} (r : Result T E) (P : Type 0) → P → OnOk r P
  on_ok (Ok x) P p = p
  on_ok (Err e) P p = tt

  -- the refusal, or else this one
  abbrev refusal_or : Fault → Result T Fault → Fault
  refusal_or f (Ok x) = f
  refusal_or f (Err e) = e

  -- one refusal is the other
  pub same_refusal : (e f : Fault) → IsErrOf {T = T} {E = Fault} (Err e) f → e ≡ f
  same_refusal e f same = ap (refusal_or f) same

  -- what is Ok is not refused
  pub not_refused : {X : Type 0} (x : T) (f : Fault) → IsErrOf {T = T} {E = Fault} (Ok x) f → X
  not_refused x f same = absurd (true≢false (ap is_ok same))

  -- a ring that is refused comes first
  pub ring_first : (e : Fault) (options : Options) (f : Fault) →
      IsErrOf {T = T} {E = Fault} (Err e) f ↔ IsFirstRefusal (Err e) options f
  ring_first e options f = (same_refusal e f, λ same. ap Err same)

  -- then a limit
  pub limit_first : (ring : Tokens) (options : Options) (e : Fault) → e ≡ TooMany →
      ¬ (AreLimits options) → (f : Fault) →
      IsErrOf {T = T} {E = Fault} (Err e) f ↔ IsFirstRefusal (Ok ring) options f
  limit_first ring options e many out f = (
    (λ same. inl (out, sym many ∙ same_refusal e f same)),
    ⊎_elim (λ limit. ap Err (many ∙ limit.1)) (λ quorum. absurd (out quorum.0)),
  )

  -- then the quorum
  pub quorum_first : (ring : Tokens) (options : Options) → AreLimits options →
      ¬ (IsQuorum options ring.nodes) → (f : Fault) →
      IsErrOf {T = T} {E = Fault} (Err BadQuorum) f ↔ IsFirstRefusal (Ok ring) options f
  quorum_first ring options limits none f = (
    (λ e. inr (limits, none, same_refusal BadQuorum f e)),
    ⊎_elim (λ limit. absurd (limit.0 limits)) (λ quorum. ap Err quorum.2),
  )

  -- and then nothing
  pub none_first : (ring : Tokens) (options : Options) (x : T) → AreLimits options →
      IsQuorum options ring.nodes → (f : Fault) →
      IsErrOf {T = T} {E = Fault} (Ok x) f ↔ IsFirstRefusal (Ok ring) options f
  none_first ring options x limits quorum f = (
    (λ e. not_refused x f e),
    ⊎_elim (λ limit. absurd (limit.0 limits)) (λ other. absurd (other.1 quorum)),
  )

  abbrev pub is_refusal : Result T Stopped → Bool
  is_refusal (Ok x) = false
  is_refusal (Err (Refused e)) = true
  is_refusal (Err (Output e)) = false

  abbrev stop_or : Fault → Result T Stopped → Fault
  stop_or f (Ok x) = f
  stop_or f (Err (Refused e)) = e
  stop_or f (Err (Output e)) = f

  -- a ring that is refused is what stops this
  pub ring_stops : (e f : Fault) →
      IsErrOf {T = T} {E = Stopped} (Err (Refused e)) (Refused f)
      ↔ IsErrOf {T = Tokens} {E = Fault} (Err e) f
  ring_stops e f = (
    (λ same. ap Err (ap (stop_or f) same)),
    (λ same. ap (λ (x : Fault). Err (Refused x)) (ap (tokens_refusal f) same)),
  )

  -- where it is made, what came of this is no refusal
  pub ring_passes : (ring : Tokens) (r : Result T Stopped) → is_refusal r ≡ false → (f : Fault) →
      IsErrOf r (Refused f) ↔ IsErrOf {T = Tokens} {E = Fault} (Ok ring) f
  ring_passes ring r none f = (
    (λ same. absurd (true≢false (sym (ap is_refusal same) ∙ none))),
    (λ same. absurd (true≢false (ap is_ok same))),
  )

  -- what can but fail is stopped by nothing else, whatever refuses besides
  pub failed_only : (r : Result T Stopped) (Refuses : Fault → Type 0) →
      IfErr r (IsStoppedFor HasFailed) → IsStoppedOnlyBy Refuses r
  failed_only (Ok x) Refuses only = tt
  failed_only (Err e) Refuses only = λ f stops. inr (only f stops)

  -- what ends by this refusal is stopped for its cause
  pub ends_for : (r : Result T Stopped) (e : Fault) (Causes : Fault → Type 0) →
      IsErrAnd r (λ s. s ≡ Refused e) → Causes e → IfErr r (IsStoppedFor Causes)
  ends_for (Ok x) e Causes gives cause = tt
  ends_for (Err s) e Causes gives cause =
      λ f stops. subst Causes (same_stop e f (sym gives ∙ stops)) cause

  -- what ends as another did is stopped for the same causes
  pub ends_as : (r : Result T Stopped) (s : Stopped) (Causes : Fault → Type 0) →
      IsErrAnd r (λ t. t ≡ s) → IsStoppedFor Causes s → IfErr r (IsStoppedFor Causes)
  ends_as (Ok x) s Causes gives only = tt
  ends_as (Err t) s Causes gives only = λ f stops. only f (sym gives ∙ stops)
