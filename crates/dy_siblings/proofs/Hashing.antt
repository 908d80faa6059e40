-- What a hasher is given of a key, by how long it is.
use Rattle.std.proofs.Common.{◌≡◌, ◌<◌, ◌≤◌, ◌∷◌, [], cond, List, ℕ, length, ap}
use Rattle.std.proofs.lemmas.Bool.{le-leb, lt-leb}
use Rattle.dy_siblings.specs.inside.Hashed.{hashed}
use Rattle.dy_siblings.specs.inside.Leads.{front_of}

pub hashed_short : (bytes : List ℕ) → length bytes ≤ 14 → hashed bytes ≡ front_of bytes ∷ []
hashed_short bytes few = ap (λ b. cond b (front_of bytes) bytes ∷ []) (le-leb (length bytes) 14 few)

pub hashed_long : (bytes : List ℕ) → 14 < length bytes → hashed bytes ≡ bytes ∷ []
hashed_long bytes many = ap (λ b. cond b (front_of bytes) bytes ∷ []) (lt-leb (length bytes) 14 many)
