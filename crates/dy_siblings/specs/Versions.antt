-- A version of a key, and its history.
use Rattle.std.specs.Prelude.{◌≡◌, ℕ, ◌&&◌, ◌||◌, not, Bool, false, List, Option, option_map, refl}
use Rattle.std.specs.Coded.{Coded, code_by, coded×, coded_ℕ, coded_list, coded_option}
use Rattle.std.specs.FinSet as set
use Rattle.dy_dots.specs.Dots.{DotNumbers, DotSet, dot_code, dot_set_code, same_dot}

-- what a version is seen as: a key, the dot that names it, the dots that it follows, and what it
-- stores, which is nothing for a deletion
pub record VersionParts : Type 0 where
  pub key : List ℕ
  pub dot : DotNumbers
  pub past : DotSet
  pub value : Option (List ℕ)

-- the past lacks the version's own dot
abbrev pub IsVersion : VersionParts → Type 0
IsVersion v = set.contains v.past v.dot ≡ false

-- the history of a version is its past with its own dot
abbrev pub history_of : VersionParts → DotSet
history_of v = set.insert v.past v.dot

-- whether the version's history has the dot: it is the dot's version, or it causally follows it
abbrev pub in_history : VersionParts → DotNumbers → Bool
in_history v d = same_dot v.dot d || set.contains v.past d

-- one version causally precedes another: the other's past has its dot
abbrev pub precedes : VersionParts → VersionParts → Bool
precedes u v = set.contains v.past u.dot

-- two versions are concurrent: neither's history has the dot of the other
abbrev pub are_concurrent : VersionParts → VersionParts → Bool
are_concurrent u v = not (in_history u v.dot) && not (in_history v u.dot)

-- the value, where it is present, with the version's dot
abbrev pub present : VersionParts → Option (DotNumbers × List ℕ)
present v = option_map (λ value. (v.dot, value)) v.value

-- the version, with what a function gives for its value
abbrev pub with_value : (VersionParts → Option (List ℕ)) → VersionParts → VersionParts
with_value value_of v = record { key = v.key; dot = v.dot; past = v.past; value = value_of v }

-- how a version's parts are told apart
abbrev pub version_code : Coded VersionParts
version_code =
    code_by (List ℕ × (DotNumbers × (DotSet × Option (List ℕ))))
    (coded× (coded_list coded_ℕ)
    (coded× dot_code (coded× dot_set_code (coded_option (coded_list coded_ℕ)))))
    (λ v. (v.key, (v.dot, (v.past, v.value))))
    (λ p. record { key = p.0; dot = p.1.0; past = p.1.1.0; value = p.1.1.1 })
    (λ _. refl)
