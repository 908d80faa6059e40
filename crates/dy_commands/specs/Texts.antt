-- What the texts of a command are judged to say.
use Rattle.std.specs.Prelude.{◌≡◌, ◌<◌, ◌⊎◌, ◌↔◌, ℕ, List, length, Option, Some, None, Result}
use Rattle.std.specs.Prelude.{IfOk, IfErr, IsErrOf}
use Rattle.std.specs.FinSet as set
use Rattle.dy_dots.specs.Dots.{DotSet}
use Rattle.dy_dots.specs.Spelling.{IsFound, IsRefused}
use Rattle.dy_dots.specs.declared.faults.Fault.{Fault}
use Rattle.dy_dots.specs.declared.faults.Fault.TheVariants.{OutOfMemory, KeySize}
use Rattle.dy_dots.specs.declared.faults.Fault.TheVariants.{ValueSize}
use Rattle.dy_siblings.specs.Sizes.{IsKey}
use Rattle.dy_siblings.specs.declared.values.TheConstants.{MAX_VALUE_BYTES}
use Rattle.dy_commands.specs.declared.givens.Given.{Given}

-- the context that a text gives, which is empty where there is none
abbrev pub IsContextOf : Option (List ℕ) → DotSet → Type 0
IsContextOf None context = context ≡ set.empty
IsContextOf (Some text) context = IsFound text context

-- why the context that a text gives is refused
abbrev pub IsContextRefused : Option (List ℕ) → Fault → Type 0
IsContextRefused None f = ⊥
IsContextRefused (Some text) f = IsRefused text f

-- the key, the context and the value that were written
abbrev pub IsGiven : List ℕ → Option (List ℕ) → Option (List ℕ) → Given → Type 0
IsGiven key context value g =
    (g.key ≡ key) × IsContextOf context g.context × (g.value ≡ value)

-- why a key or a context of the right sizes is refused
abbrev pub IsGivenRefused : List ℕ → Option (List ℕ) → Fault → Type 0
IsGivenRefused key context f =
    ((f ≡ KeySize) × ¬ (IsKey key)) ⊎ (f ≡ OutOfMemory) ⊎ (IsKey key × IsContextRefused context f)

-- how a put is judged: the size of its key, then that of its value, and then its context
pub record IsPutJudged (key : List ℕ) (context : Option (List ℕ)) (value : List ℕ)
    (judged : Result Given Fault) : Type 0 where
  pub ok : IfOk judged (IsGiven key context (Some value))
  pub key_size : IsErrOf judged KeySize ↔ ¬ (IsKey key)
  pub value_size : IsErrOf judged ValueSize ↔ (IsKey key × (MAX_VALUE_BYTES < length value))
  pub only : IfErr judged (λ f. (f ≡ ValueSize) ⊎ IsGivenRefused key context f)

-- how a delete is judged
pub record IsDeleteJudged (key : List ℕ) (context : Option (List ℕ))
    (judged : Result Given Fault) : Type 0 where
  pub ok : IfOk judged (IsGiven key context None)
  pub key_size : IsErrOf judged KeySize ↔ ¬ (IsKey key)
  pub only : IfErr judged (IsGivenRefused key context)

-- why the key of a get or a show is refused: for its size, or else for memory
abbrev pub IsKeyRefused : List ℕ → Fault → Type 0
IsKeyRefused key f = (¬ (IsKey key) × (f ≡ KeySize)) ⊎ (IsKey key × (f ≡ OutOfMemory))

-- how the key of a get is judged
pub record IsKeyJudged (key : List ℕ) (judged : Result (List ℕ) Fault) : Type 0 where
  pub ok : IfOk judged (λ k. (k ≡ key) × IsKey key)
  pub size : IsErrOf judged KeySize ↔ ¬ (IsKey key)
  pub only : IfErr judged (IsKeyRefused key)
