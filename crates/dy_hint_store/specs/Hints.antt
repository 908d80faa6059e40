-- Hints: rows by home and key.
use Rattle.std.specs.Prelude.{◌≡◌, ◌<◌, ℕ, List, [], ◌∷◌, length, Some}
use Rattle.std.specs.declared.cmp.Ordering.{Ordering}
use Rattle.std.specs.Ordering.{nat_cmp, ordering_then}
use Rattle.std.specs.Cmp.Lexicographic.{slice_cmp}
use Rattle.std.specs.Coded.{Coded, coded×, coded_ℕ, coded_list}
use Rattle.std.specs.Borrow.{Bor}
use Rattle.std.specs.FinMap as maps
use Rattle.dy_siblings.specs.Siblings.{Siblings, siblings_code}
use Rattle.dy_siblings.specs.Versions.{VersionParts}
use Rattle.dy_node_store.specs.Rows.{versions_in}

-- by home, and then by the bytes of the key
abbrev pub home_then_key : ℕ × List ℕ → ℕ × List ℕ → Ordering
home_then_key x y = ordering_then (nat_cmp x.0 y.0) (slice_cmp nat_cmp x.1 y.1)

-- rows by home and by the bytes of the key
abbrev pub Hints : Type 0
Hints = maps.FinMap home_then_key Siblings

-- how maps of hints are told apart
abbrev pub hints_code : Coded Hints
hints_code = maps.code (coded× coded_ℕ (coded_list coded_ℕ)) siblings_code

-- the versions that are held of a key for a home
abbrev pub versions_for : Hints → ℕ → List ℕ → List VersionParts
versions_for hints home key = versions_in (maps.get hints (home, key))

-- the hints with these versions in the place of the key's for the home: with none of them there is
-- no hint of the key for the home
abbrev pub with_versions_for : Hints → ℕ → List ℕ → List VersionParts → Hints
with_versions_for hints home key [] = maps.remove hints (home, key)
with_versions_for hints home key (v ∷ vs) =
    maps.insert hints (home, key) (record { key = key; versions = v ∷ vs })

-- a hint as it is listed: its home and its row
abbrev pub home_and_row : (ℕ × List ℕ) × Siblings → ℕ × Siblings
home_and_row hint = (hint.0.0, hint.1)

-- the home and the row that a listed hint shows
abbrev pub shown : ℕ × Bor Siblings → ℕ × Siblings
shown hint = (hint.0, hint.1.now)

-- the hint is the row that is kept of its key for its home, and has a version
abbrev pub IsHint : Hints → ℕ × Siblings → Type 0
IsHint hints hint =
    (maps.get hints (hint.0, hint.1.key) ≡ Some hint.1) × (0 < length hint.1.versions)
