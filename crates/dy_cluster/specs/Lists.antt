-- The list that a call goes by.
use Rattle.std.specs.Prelude.{ℕ, List}
use Rattle.dy_ring.specs.Rings.{Tokens}
use Rattle.dy_preference.specs.Preferences.{Preferred, preference_of}

-- the key's preference list on the ring, of which the first n nodes are its homes
abbrev pub list_of : Tokens → ℕ → List ℕ → Preferred
list_of ring n key = record { nodes = preference_of ring key; n = n }
