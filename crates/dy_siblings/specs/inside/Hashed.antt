-- What a hasher is given of a key.
use Rattle.std.specs.Prelude.{ℕ, ◌∷◌, [], List, length, if◌then◌else◌, nat_le}
use Rattle.std.specs.Hash.{HashWrites}
use Rattle.dy_siblings.specs.inside.Leads.{front_of}
use Rattle.dy_siblings.specs.declared.keys.TheConstants.{SHORT_KEY_BYTES}

-- in one write, what lies in place of a short one, and all bytes of a longer one
abbrev pub hashed : List ℕ → HashWrites
hashed bytes = (if nat_le (length bytes) SHORT_KEY_BYTES then front_of bytes else bytes) ∷ []
