-- What a put or a get begins with.
use Rattle.std.specs.Prelude.{◌≡◌, ◌≤◌, []}
use Rattle.dy_dots.specs.declared.nodes.TheConstants.{MAX_NODES}
use Rattle.dy_transport.specs.Told.{Told}

-- nothing was tried, asked or answered yet, and there is room to ask each node
pub record IsFresh {J : Type 0} (told : Told J) : Type 0 where
  pub tries : told.tries ≡ []
  pub asks : told.asks ≡ []
  pub replies : told.replies ≡ []
  pub room : MAX_NODES ≤ told.room
