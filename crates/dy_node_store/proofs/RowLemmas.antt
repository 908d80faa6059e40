-- Entries that are rows of their keys, and rows with other versions.
use Rattle.std.proofs.Common.{◌≡◌, ℕ, ◌<◌, Bool, true, false, cond, List, [], ◌∷◌, length, map, Option, None, Some, IfSome, refl, sym, ap, ◌∙◌, subst, arith}
use Rattle.std.specs.Cmp.Lexicographic.{nat_list_eq_equiv}
use Rattle.std.specs.List.{All, Contains, IsDistinct}
use Rattle.std.specs.Map.{keys_of, values_of, lookup}
use Rattle.std.specs.FinMap as maps
use Rattle.std.proofs.lemmas.List.Elements.{All-nil, All-cons, All-head, All-tail}
use Rattle.std.proofs.lemmas.List.Elements.{All-contains_itself, All-weaker}
use Rattle.std.proofs.lemmas.Map.Views.{All-values_from_lookup, lookup-from_Contains}
use Rattle.dy_siblings.specs.Siblings.{Siblings, same_key}
use Rattle.dy_siblings.specs.Versions.{VersionParts}
use Rattle.dy_node_store.specs.Rows.{Rows, with_versions, IsRowOf, IsKeptRow}
use Rattle.dy_node_store.specs.inside.Entries.{AreRows}
use Rattle.dy_node_store.proofs.Hashed.{Answers, get_lookup, one_key}

-- none are rows
pub AreRows-none : (es : List (List ℕ × Siblings)) → es ≡ [] → AreRows es
AreRows-none es none = subst AreRows (sym none) (record { at = λ key. tt })

-- rows stay rows where one of its key is put at a key, or none
pub AreRows-changed : (es fs : List (List ℕ × Siblings)) (k : List ℕ) (w : Option Siblings) → AreRows es → IfSome w (IsRowOf k) → Answers es fs k w → AreRows fs
AreRows-changed es fs k w rows new answers = record {
  at = λ q. subst (λ o. IfSome o (IsRowOf q)) (sym (answers q))
      (elim (same_key k q) as (λ b. same_key k q ≡ b → IfSome (cond b w (lookup (same_key q) es)) (IsRowOf q)) [
        | true ↦ λ same. subst (λ j. IfSome w (IsRowOf j)) (one_key k q same) new
        | false ↦ λ _. rows.at q
      ] refl);
}

-- versions put a row in their key's place
pub with_versions_filled : (rows : Rows) (key : List ℕ) (vs : List VersionParts) → 0 < length vs → with_versions rows key vs ≡ maps.insert rows key (record { key = key; versions = vs })
with_versions_filled rows key [] filled = absurd (omega (arith, filled))
with_versions_filled rows key (v ∷ vs) filled = refl

-- a row whose test of emptiness fails has a version
pub has_version : (empty : Bool) (vs : List VersionParts) → (vs ≡ [] → empty ≡ true) → empty ≡ false → 0 < length vs
has_version empty [] told not_empty = let both : true ≡ false = sym (told refl) ∙ not_empty in cc
has_version empty (v ∷ vs) told not_empty = omega arith

-- each entry is a row of its key
pub each_row : (es : List (List ℕ × Siblings)) → AreRows es → IsDistinct same_key (keys_of es) → All (λ e. IsRowOf e.0 e.1) es
each_row es rows apart = All-weaker (Contains es) (λ e. IsRowOf e.0 e.1)
    (λ e inside. subst (λ o. IfSome o (IsRowOf e.0))
    (lookup-from_Contains nat_list_eq_equiv e.0 e.1 es apart inside) (rows.at e.0)) es
    (All-contains_itself es)

-- each value of the entries is the row that is kept of its key
pub kept_values : (es : List (List ℕ × Siblings)) → AreRows es → IsDistinct same_key (keys_of es) →
    All (IsKeptRow (maps.from_entries es)) (values_of es)
kept_values es rows apart = All-values_from_lookup nat_list_eq_equiv
    (IsKeptRow (maps.from_entries es)) es apart (λ q. kept q (rows.at q))
  where
    kept : (q : List ℕ) → IfSome (lookup (same_key q) es) (IsRowOf q) →
        IfSome (lookup (same_key q) es) (IsKeptRow (maps.from_entries es))
    kept q is =
        elim (lookup (same_key q) es) as (λ o. lookup (same_key q) es ≡ o → IfSome o (IsRowOf q) → IfSome o (IsKeptRow (maps.from_entries es))) [
          | None ↦ λ _ _. tt
          | Some row ↦ λ there of_key. (ap (maps.get (maps.from_entries es)) of_key.0 ∙ get_lookup es q ∙ there, of_key.1)
        ] refl is

-- what holds of each value of a function holds of each argument's
pub All-mapped : {X Y : Type 0} (P : X → Type 0) (f : Y → X) (ys : List Y) → All P (map f ys) →
    All (λ y. P (f y)) ys
All-mapped P f [] all = All-nil (λ y. P (f y))
All-mapped P f (y ∷ ys) all = All-cons (λ y. P (f y)) y ys (All-head P (f y) (map f ys) all)
    (All-mapped P f ys (All-tail P (f y) (map f ys) all))
