-- The first bytes of a key, which lie in place, and the number that they make.
use Rattle.std.specs.Prelude.{◌≡◌, ◌+◌, ◌*◌, ◌<◌, ◌≤◌, ℕ, List, [], ◌∷◌, ◌++◌}
use Rattle.std.specs.Prelude.{zero, suc, get_or, drop, take, length}
use Rattle.std.specs.Arc.{arc_value}
use Rattle.dy_siblings.specs.Sizes.{IsKey}
use Rattle.dy_siblings.specs.declared.keys.TheConstants.{MAX_KEY_BYTES, SHORT_KEY_BYTES}
use Rattle.dy_siblings.specs.declared.key_bytes.KeyBytes.{KeyBytes}
use Rattle.dy_siblings.specs.declared.key_bytes.KeyBytes.TheVariants.{Short, Long}

-- so many bytes from this place on, where 0 stands for each that lacks
abbrev pub bytes_from : ℕ → ℕ → List ℕ → List ℕ
bytes_from zero place bytes = []
bytes_from (suc n) place bytes = get_or bytes place 0 ∷ bytes_from n (place + 1) bytes

-- the first fourteen, and how many there are in all
unfoldable pub front_of : List ℕ → List ℕ
front_of bytes = bytes_from 14 0 bytes ++ length bytes ∷ []

-- the number that so many more bytes make of this one, where 0 stands for each that lacks
abbrev pub lead_from : ℕ → ℕ → List ℕ → ℕ
lead_from zero lead bytes = lead
lead_from (suc n) lead bytes = lead_from n (lead * 256 + get_or bytes 0 0) (drop 1 bytes)

-- that of the first fourteen, and how many there are in all
unfoldable pub number_of : List ℕ → ℕ
number_of bytes = lead_from 14 0 bytes * 256 + length bytes

-- that of as many as a key has at most
unfoldable pub whole_of : List ℕ → ℕ
whole_of bytes = lead_from MAX_KEY_BYTES 0 bytes

-- each is below 256
abbrev pub AreBytes : List ℕ → Type 0
AreBytes bytes = (i : ℕ) → get_or bytes i 0 < 256

-- the other has these bytes, and zeros behind them
abbrev pub AreFilled : List ℕ → List ℕ → Type 0
AreFilled bytes all = (i : ℕ) → get_or all i 0 ≡ get_or bytes i 0

-- the bytes of a key: those in place, or so many of those that its copies share
abbrev pub bytes_of : KeyBytes → List ℕ
bytes_of (Short front) = take (get_or front 14 0) front
bytes_of (Long count whole) = take count (arc_value whole)

-- the front is that of these bytes, of which there are few
pub record IsShort (front : List ℕ) (bytes : List ℕ) : Type 0 where
  pub size : IsKey bytes
  pub small : AreBytes bytes
  pub front_is : front ≡ front_of bytes
  pub few : length bytes ≤ SHORT_KEY_BYTES

-- all that are kept are these bytes, of which there are many, and zeros behind them
pub record IsLong (count : ℕ) (whole : List ℕ) (bytes : List ℕ) : Type 0 where
  pub size : IsKey bytes
  pub small : AreBytes bytes
  pub count_is : count ≡ length bytes
  pub many : SHORT_KEY_BYTES < length bytes
  pub filled : AreFilled bytes whole

-- a key's bytes, kept in the form that is theirs
abbrev pub IsKeyOf : KeyBytes → List ℕ → Type 0
IsKeyOf (Short front) bytes = IsShort front bytes
IsKeyOf (Long count whole) bytes = IsLong count (arc_value whole) bytes
