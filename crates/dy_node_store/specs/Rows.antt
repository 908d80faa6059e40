-- Rows by key.
use Rattle.std.specs.Prelude.{◌≡◌, ℕ, ◌<◌, not, List, [], ◌∷◌, length, Option, Some, None}
use Rattle.std.specs.Ordering.{nat_cmp}
use Rattle.std.specs.Cmp.Lexicographic.{slice_cmp}
use Rattle.std.specs.Coded.{Coded, coded_ℕ, coded_list}
use Rattle.std.specs.FinMap as map
use Rattle.std.specs.List.{filter, list_any}
use Rattle.dy_dots.specs.Dots.{DotNumbers, same_dot}
use Rattle.dy_siblings.specs.Siblings.{Siblings, siblings_code}
use Rattle.dy_siblings.specs.Versions.{VersionParts}

-- rows by the bytes of their keys
abbrev pub Rows : Type 0
Rows = map.FinMap (slice_cmp nat_cmp) Siblings

-- how maps of rows are told apart
abbrev pub rows_code : Coded Rows
rows_code = map.code (coded_list coded_ℕ) siblings_code

-- the versions of a row that may be absent
abbrev pub versions_in : Option Siblings → List VersionParts
versions_in None = []
versions_in (Some row) = row.versions

-- the versions that are held of a key
abbrev pub versions_of : Rows → List ℕ → List VersionParts
versions_of rows key = versions_in (map.get rows key)

-- the rows with these versions in the place of the key's: with none of them the key has no row
abbrev pub with_versions : Rows → List ℕ → List VersionParts → Rows
with_versions rows key [] = map.remove rows key
with_versions rows key (v ∷ vs) = map.insert rows key (record { key = key; versions = v ∷ vs })

-- the versions but those of these dots
abbrev pub without_dots : List VersionParts → List DotNumbers → List VersionParts
without_dots vs dots = filter (λ v. not (list_any (λ d. same_dot v.dot d) dots)) vs

-- the row is one of this key, and has a version
abbrev pub IsRowOf : List ℕ → Siblings → Type 0
IsRowOf key row = (row.key ≡ key) × (0 < length row.versions)

-- the row is the one that is kept of its key, and has a version
abbrev pub IsKeptRow : Rows → Siblings → Type 0
IsKeptRow rows row = (map.get rows row.key ≡ Some row) × (0 < length row.versions)
