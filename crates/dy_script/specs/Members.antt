-- The members of a JSON value, each read or refused.
use Rattle.std.specs.Prelude.{ℕ, ◌+◌, ◌&&◌, nat_lt, List, [], ◌∷◌, Bool, true, false, bytes_eq}
use Rattle.std.specs.Prelude.{if◌then◌else◌, Option, Some, None, option_and_then}
use Rattle.std.specs.Prelude.{Result, Ok, Err, ⊤}
use Rattle.std.specs.List.{list_any}
use Rattle.serde_json.specs.Data.{Data, Items, no_items, item, Members, no_members, member}
use Rattle.serde_json.specs.Find.{get as member_of, as_bool, as_number, as_u64}
use Rattle.serde_json.specs.Find.{as_str, as_array, as_object}
use Rattle.dy_dots.specs.declared.faults.Fault.{Fault}
use Rattle.dy_dots.specs.declared.faults.Fault.TheVariants.{ScriptSyntax}

-- ---- steps that may refuse

-- a step, and then the next
infixl 10 ◌>>=◌
abbrev pub ◌>>=◌ : {A B : Type 0} → Result A Fault → (A → Result B Fault) → Result B Fault
Ok x >>= f = f x
Err e >>= f = Err e

-- the answer, seen by f
abbrev pub seen : {A B : Type 0} → (A → B) → Result A Fault → Result B Fault
seen f (Ok x) = Ok (f x)
seen f (Err e) = Err e

-- what is there, or else command k is wrong; 0 is the script itself
abbrev pub need : {A : Type 0} → ℕ → Option A → Result A Fault
need k (Some x) = Ok x
need k None = Err (ScriptSyntax k)

-- what may be left out is read where it is there
abbrev pub optional :
    {A D : Type 0} → ℕ → (D → Option A) → Option D → Result (Option A) Fault
optional k read_as None = Ok None
optional k read_as (Some d) = seen Some (need k (read_as d))

-- ---- members

-- each member has one of the names
abbrev pub knows : List (List ℕ) → Members → Bool
knows names no_members = true
knows names (member name d ms) = list_any (λ known. bytes_eq known name) names && knows names ms

-- an object with members of these names alone
unfoldable pub allow_only : ℕ → List (List ℕ) → Data → Result ⊤ Fault
allow_only k names d =
    need k (as_object d) >>= (λ ms. if knows names ms then Ok tt else Err (ScriptSyntax k))

-- a whole number is digits alone, and below 2^64
abbrev pub as_whole : Data → Option ℕ
as_whole d = option_and_then as_u64 (as_number d)

-- a small number is below 256
abbrev pub as_small : Data → Option ℕ
as_small d = option_and_then (λ n. if nat_lt n 256 then Some n else None) (as_whole d)

unfoldable pub text : ℕ → List ℕ → Data → Result (List ℕ) Fault
text k name d = need k (option_and_then as_str (member_of name d))

unfoldable pub optional_text : ℕ → List ℕ → Data → Result (Option (List ℕ)) Fault
optional_text k name d = optional k as_str (member_of name d)

unfoldable pub optional_list : ℕ → List ℕ → Data → Result (Option Items) Fault
optional_list k name d = optional k as_array (member_of name d)

unfoldable pub optional_whole : ℕ → List ℕ → Data → Result (Option ℕ) Fault
optional_whole k name d = optional k as_whole (member_of name d)

unfoldable pub optional_small : ℕ → List ℕ → Data → Result (Option ℕ) Fault
optional_small k name d = optional k as_small (member_of name d)

unfoldable pub small : ℕ → List ℕ → Data → Result ℕ Fault
small k name d = need k (option_and_then as_small (member_of name d))

-- a truth value, false where it is left out
abbrev pub as_flag : ℕ → Option Data → Result Bool Fault
as_flag k None = Ok false
as_flag k (Some d) = need k (as_bool d)

unfoldable pub flag : ℕ → List ℕ → Data → Result Bool Fault
flag k name d = as_flag k (member_of name d)

-- each element of a list, read with its number, which is i for the first
abbrev pub each_of :
    {A : Type 0} → (ℕ → Data → Result A Fault) → ℕ → Items → Result (List A) Fault
each_of f i no_items = Ok []
each_of f i (item d ds) = do
  x ← f i d
  xs ← each_of f (i + 1) ds
  Ok (x ∷ xs)
