-- The value of a text, by what reading it in UTF-8 answers.
use Rattle.std.proofs.Common.{◌≡◌, ℕ, ◌<◌, ◌⊎◌, inl, inr, List, [], ◌∷◌, length, Bool, true, false, true≢false, cond, Option, Some, None, option_and_then, refl, sym, ap, ◌∙◌, arith}
use Rattle.std.specs.Prelude.{IsUtf8}
use Rattle.std.specs.Str.{is_utf8}
use Rattle.std.proofs.lemmas.Str.{IsUtf8-nil, IsUtf8-from_is_utf8, is_utf8-from_IsUtf8}
use Rattle.json.specs.Json as json
use Rattle.json.specs.Lex.{lex, punctuate, tokens}
use Rattle.json.specs.Reads.{opens}
use Rattle.json.specs.Token.{Token}
use Rattle.json.specs.declared.error.Error.{Error}
use Rattle.json.specs.declared.error.Error.TheVariants as error
use Rattle.serde_json.proofs.OnLiterals.{serde_json_on_literals}
use Rattle.serde_json.specs.Data.{Data}
use Rattle.serde_json.specs.Read.{of_json, read as read_text}
use Rattle.dy_dots.specs.declared.faults.Fault.TheVariants.{ScriptSyntax, OutOfMemory}
use Rattle.dy_script.proofs.LookUps.{converted}
use Rattle.dy_script.specs.Reading.{data_of}
use Rattle.dy_script.specs.inside.Documents.{data_in, in_range, document, fault_of}

-- a text in UTF-8 of which a value was read, its numbers in range
pub data_read : (bytes : List ℕ) (j : json.Json) → IsUtf8 bytes → document bytes ≡ Some j → in_range j ≡ true → data_of bytes ≡ Some (data_in j)
unfolding data_of
data_read bytes j u h r =
    let d = ap (option_and_then of_json) h ∙ converted j in
    rw (is_utf8-from_IsUtf8 bytes u) (d ∙ ap (λ b. cond b (Some (data_in j)) None) r)

-- a number is out of range
pub data_out_of_range : (bytes : List ℕ) (j : json.Json) → IsUtf8 bytes → document bytes ≡ Some j → in_range j ≡ false → data_of bytes ≡ None
unfolding data_of
data_out_of_range bytes j u h r =
    let d = ap (option_and_then of_json) h ∙ converted j in
    rw (is_utf8-from_IsUtf8 bytes u) (d ∙ ap (λ b. cond b (Some (data_in j)) None) r)

unread_by : (b : Bool) (o : Option Data) → (b ≡ true → o ≡ None) → cond b o None ≡ None
unread_by true o h = h refl
unread_by false o h = refl

-- no value was read, if the text is in UTF-8
pub data_unread : (bytes : List ℕ) → (IsUtf8 bytes → document bytes ≡ None) → data_of bytes ≡ None
unfolding data_of
data_unread bytes h =
    unread_by (is_utf8 bytes) (read_text bytes) (λ e. ap (option_and_then of_json) (h (IsUtf8-from_is_utf8 bytes e)))

opened_some : (ts : List Token) → opens ts ≡ true → 0 < length ts
opened_some [] h = absurd (true≢false (sym h))
opened_some (t ∷ ts) h = omega arith

some_text : (text : List ℕ) → 0 < length (tokens text) → 0 < length text
unfolding lex punctuate
some_text [] h = h
some_text (x ∷ xs) h = omega arith

-- a tree was not read
pub tree_refused : (text : List ℕ) (e : Error) → (e ≡ error.Invalid → document text ≡ None) → (e ≡ error.TooLong → ⊥) → (e ≡ error.DuplicateKey → ⊥)
    → (fault_of e ≡ OutOfMemory) ⊎ ((fault_of e ≡ ScriptSyntax 0) × (document text ≡ None))
tree_refused text error.Invalid i l d = inr (refl, i refl)
tree_refused text error.OutOfMemory i l d = inl refl
tree_refused text error.TooLong i l d = absurd (l refl)
tree_refused text error.DuplicateKey i l d = absurd (d refl)

-- memory was short
pub tree_short : (text : List ℕ) (e : Error) → (e ≡ error.OutOfMemory → opens (tokens text) ≡ true) → fault_of e ≡ OutOfMemory → 0 < length text
tree_short text error.Invalid m h = absurd (cc)
tree_short text error.OutOfMemory m h = some_text text (opened_some (tokens text) (m refl))
tree_short text error.TooLong m h = absurd (cc)
tree_short text error.DuplicateKey m h = absurd (cc)

-- nothing spells no value
data_nil : data_of [] ≡ None
unfolding data_of serde_json_on_literals
data_nil = rw (is_utf8-from_IsUtf8 [] IsUtf8-nil) refl

-- a text that spells a value has bytes
pub data_has_bytes : (bytes : List ℕ) (d : Data) → data_of bytes ≡ Some d → 0 < length bytes
data_has_bytes [] d h = let e = data_nil in cc
data_has_bytes (b ∷ bytes) d h = omega arith
