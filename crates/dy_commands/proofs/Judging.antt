-- How keys are judged.
use Rattle.std.proofs.Common.{◌≡◌, ◌↔◌, ◌<◌, ◌∙◌, ℕ, List, Bool, true, false, length, ap, sym}
use Rattle.std.proofs.Common.{inl, inr, ⊎_elim, arith}
use Rattle.std.proofs.lemmas.Bool.{cases_lt, true≢false}
use Rattle.std.specs.Prelude.{◌⊎◌, Result, Ok, Err, IfOk, IfErr, IsErrOf}
use Rattle.dy_dots.specs.declared.faults.Fault.{Fault}
use Rattle.dy_dots.specs.declared.faults.Fault.TheVariants.{KeySize, OutOfMemory}
use Rattle.dy_siblings.specs.Sizes.{IsKey}
use Rattle.dy_siblings.specs.declared.keys.TheConstants.{MAX_KEY_BYTES}
use Rattle.dy_commands.specs.Texts.{IsKeyJudged}
use Rattle.dy_plans.proofs.Refusing.{not_refused, same_refusal}

-- bytes that are none or too many
abbrev IsNoKey : List ℕ → Type 0
IsNoKey bytes = (length bytes ≡ 0) ⊎ (MAX_KEY_BYTES < length bytes)

-- they are no key
no_key : (bytes : List ℕ) → IsNoKey bytes → ¬ (IsKey bytes)
no_key bytes (inl none) key = omega (arith, none, key.0)
no_key bytes (inr many) key = omega (arith, many, key.1)

-- others are one
key_or_none : (bytes : List ℕ) → IsNoKey bytes ⊎ IsKey bytes
key_or_none bytes =
    ⊎_elim
    (λ some. ⊎_elim (λ many. inl (inr many)) (λ few. inr (some, few))
    (cases_lt MAX_KEY_BYTES (length bytes)))
    (λ none. inl (inl (omega (arith, none))))
    (cases_lt 0 (length bytes))

abbrev is_memory : Fault → Bool
is_memory OutOfMemory = true
is_memory _ = false

-- memory that ran out is no wrong size
apart : (f : Fault) → f ≡ OutOfMemory → f ≡ KeySize → ⊥
apart f memory size = true≢false (ap is_memory (sym memory ∙ size))

-- so are they judged
pub key_judged : (bytes : List ℕ) (judged : Result (List ℕ) Fault)
    → IsErrOf judged KeySize ↔ IsNoKey bytes → IfOk judged (λ k. k ≡ bytes)
    → IfErr judged (λ f. (f ≡ KeySize) ⊎ (f ≡ OutOfMemory)) → IsKeyJudged bytes judged
key_judged bytes (Ok k) size value only =
    ⊎_elim
    (λ none. not_refused k KeySize (size.1 none))
    (λ key. record {
      ok = (value, key);
      size = (λ e. not_refused k KeySize e, λ no. absurd (no key));
      only = tt;
    })
    (key_or_none bytes)
key_judged bytes (Err f) size value (inl same) =
    let no = no_key bytes (size.0 (ap Err same)) in
    record { ok = tt; size = (λ e. no, λ no. ap Err same); only = inl (no, same) }
key_judged bytes (Err f) size value (inr memory) =
    ⊎_elim
    (λ none. absurd (apart f memory (same_refusal f KeySize (size.1 none))))
    (λ key. record {
      ok = tt;
      size = (λ e. absurd (apart f memory (same_refusal f KeySize e)), λ no. absurd (no key));
      only = inr (key, memory);
    })
    (key_or_none bytes)
