-- What a put or a get reads into.
use Rattle.std.specs.Prelude.{◌≡◌, ◌≤◌, ◌+◌, ◌*◌, [], List, ℕ, length}
use Rattle.dy_transport.specs.Told.{Told}

-- nothing was read yet, and there is room for all that may be: for an ask of each node that was
-- asked or is left, for two answers to each, in a list that has so many, and for what they bring
pub record MayRead {J : Type 0} (told : Told J) (left : List ℕ) (listed capacity room : ℕ)
    : Type 0 where
  pub fresh : told.replies ≡ []
  pub asks : length told.asks + length left ≤ told.room
  pub answers : listed + 2 * (length told.asks + length left) ≤ capacity
  pub pieces : 1 + 2 * (length told.asks + length left) ≤ room
