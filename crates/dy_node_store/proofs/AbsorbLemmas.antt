-- A row that is merged into what is kept of its key.
use Rattle.std.proofs.Common.{◌≡◌, ◌<◌, ℕ, Bool, true, false, ◌||◌, not, cond, List, [], ◌∷◌, length, Option, None, Some, arith}
use Rattle.std.proofs.Common.{IsSome, IfSome, inr, refl, sym, ap, ◌∙◌, subst}
use Rattle.std.specs.List.{Contains}
use Rattle.std.specs.Map.{lookup}
use Rattle.std.specs.FinMap as maps
use Rattle.std.specs.FinSet as set
use Rattle.std.proofs.lemmas.Bool.{true≢false}
use Rattle.dy_dots.specs.Dots.{DotNumbers, same_dot}
use Rattle.dy_siblings.specs.Siblings.{IsFollower, Siblings, merge, same_key, without}
use Rattle.dy_siblings.specs.Versions.{VersionParts}
use Rattle.dy_siblings.proofs.Members.{not_in_nil}
use Rattle.dy_node_store.specs.Rows.{Rows, with_versions, without_dots, IsRowOf}
use Rattle.dy_node_store.specs.Absorbing.{AddsNothing, IsAbsorbed}
use Rattle.dy_node_store.specs.inside.Entries.{AreRows}
use Rattle.dy_node_store.specs.declared.placed.Placed.{Placed}
use Rattle.dy_node_store.specs.declared.placed.Placed.TheVariants.{Nothing, New, Over, Beside}
use Rattle.dy_node_store.proofs.Maps.{insert_present}
use Rattle.dy_node_store.proofs.RowLemmas.{with_versions_filled}

-- there is a row, or there is none
pub not_none : {X : Type 0} (x : X) → Some x ≡ None → ⊥
not_none x is = let both : false ≡ true = subst IsSome is refl in cc

-- what is found at a key is a row of it
pub found_row : (es : List (List ℕ × Siblings)) (k key : List ℕ) (row : Siblings) → AreRows es →
    k ≡ key → lookup (same_key k) es ≡ Some row → IsRowOf key row
found_row es k key row rows same there = subst (λ j. IsRowOf j row) same
    (subst (λ o. IfSome o (IsRowOf k)) there (rows.at k))

first_of_both : {X : Type 0} (x y : X) → x ∷ [] ≡ y ∷ [] → x ≡ y
first_of_both x y is = cc

-- a row that follows another is not the same
pub follower_differs : (kept row : Siblings) (v : VersionParts) →
    IsFollower kept.versions row.versions v → kept ≡ row → ⊥
follower_differs kept row v f same =
    let is : f.earlier ≡ v =
    first_of_both f.earlier v (sym f.before ∙ ap (λ (r : Siblings). r.versions) same ∙ f.alone) in
    let back : v ≡ f.earlier = sym is in
    true≢false (sym f.follows ∙ (λ i. set.contains (back i).past (is i).dot) ∙ f.not_back)

-- an empty row adds nothing where none is kept
pub empty_adds : (row : Siblings) (kept : Option Siblings) → kept ≡ None → row.versions ≡ [] →
    AddsNothing kept row
empty_adds row kept none empty = subst (λ o. AddsNothing o row) (sym none)
    (inr (λ v h. not_in_nil v (subst (λ vs. Contains (merge [] vs) v) empty h)))

-- other versions of the row's key, as a row
abbrev pub row_of : Siblings → List VersionParts → Siblings
row_of row vs = record { key = row.key; versions = vs }

-- what comes of a row of the key is a row of it
pub absorbed_row : (kept after row : Siblings) (placed : Placed) → IsRowOf row.key kept →
    IsAbsorbed kept after (row_of row) (Some kept) row placed → IsRowOf row.key after
absorbed_row kept after row Nothing is h = subst (IsRowOf row.key) (sym h.0) is
absorbed_row kept after row New is h = absurd (not_none kept h.1)
absorbed_row kept after row (Over before) is h =
    subst (IsRowOf row.key) (sym h.1.1) (refl, h.1.2.filled)
absorbed_row kept after row (Beside dot) is h =
    subst (IsRowOf row.key) (sym h.2.1) (refl, h.2.2.filled)

-- and it is kept in the place of the key's
pub absorbed_rows : (rows new : Rows) (kept after row : Siblings) (placed : Placed) →
    maps.get rows row.key ≡ Some kept → new ≡ maps.insert rows row.key after →
    IsAbsorbed kept after (row_of row) (Some kept) row placed →
    IsAbsorbed rows new (with_versions rows row.key) (maps.get rows row.key) row placed
absorbed_rows rows new kept after row Nothing there is h = (
  is ∙ ap (maps.insert rows row.key) h.0 ∙ insert_present rows row.key kept there,
  subst (λ o. AddsNothing o row) (sym there) h.1,
)
absorbed_rows rows new kept after row New there is h = absurd (not_none kept h.1)
absorbed_rows rows new kept after row (Over before) there is h = (
  there ∙ h.0,
  (
    h.1.0,
    is ∙ ap (maps.insert rows row.key) h.1.1
        ∙ sym (with_versions_filled rows row.key h.1.0 h.1.2.filled),
    h.1.2,
  ),
)
absorbed_rows rows new kept after row (Beside dot) there is h = (
  h.0,
  there ∙ h.1,
  (
    h.2.0,
    is ∙ ap (maps.insert rows row.key) h.2.1
        ∙ sym (with_versions_filled rows row.key h.2.0 h.2.2.filled),
    h.2.2,
    h.2.3,
  ),
)

-- the same of a map that is part of another
pub absorbed_in : {M N : Type 0} (f : M → N) (old new : M) (with : List VersionParts → M)
    (kept : Option Siblings) (row : Siblings) (placed : Placed) →
    IsAbsorbed old new with kept row placed →
    IsAbsorbed (f old) (f new) (λ vs. f (with vs)) kept row placed
absorbed_in f old new with kept row Nothing h = (ap f h.0, h.1)
absorbed_in f old new with kept row New h = (ap f h.0, h.1, h.2)
absorbed_in f old new with kept row (Over before) h = (h.0, (h.1.0, ap f h.1.1, h.1.2))
absorbed_in f old new with kept row (Beside dot) h =
    (h.0, h.1, (h.2.0, ap f h.2.1, h.2.2, h.2.3))

-- without one dot
pub without_one : (vs : List VersionParts) (d : DotNumbers) → without_dots vs (d ∷ []) ≡ without vs d
without_one [] d = refl
without_one (v ∷ vs) d = go (same_dot v.dot d) (without_one vs d)
  where
    go : (b : Bool) → without_dots vs (d ∷ []) ≡ without vs d →
        cond (not (b || false)) (v ∷ without_dots vs (d ∷ [])) (without_dots vs (d ∷ []))
        ≡ cond (not b) (v ∷ without vs d) (without vs d)
    go true later = later
    go false later = ap (λ l. v ∷ l) later

-- what is not empty without a dot is not empty
pub filled_before : (vs before : List VersionParts) (d : DotNumbers) → without vs d ≡ before →
    0 < length before → 0 < length vs
filled_before [] before d is filled = subst (λ l. 0 < length l) (sym is) filled
filled_before (v ∷ vs) before d is filled = omega arith
