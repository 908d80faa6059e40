-- A turn for whose key or value memory is wanting calls nothing.
use Rattle.std.proofs.Common.{List, ℕ, None, Bool, refl, inr}
use Rattle.dy_shares.specs.Shares.{SessionPart}
use Rattle.dy_transport.specs.Told.{nothing_told}
use Rattle.dy_cluster.specs.Settings.{Setting}
use Rattle.dy_storm.specs.Turns.{IsTurnOf}
use Rattle.dy_storm.proofs.turns.Player.play.Goals as goal

calls_nothing : (s : Setting) (key value : List ℕ) (session : SessionPart) (is_mended : Bool)
    → IsTurnOf s key value session session is_mended
calls_nothing s key value session is_mended = record {
  context = None;
  between = session;
  mending = nothing_told 0;
  gets = refl;
  puts = inr refl;
}

-- of a key
pub returns-in_default-clause-turn : goal.returns-in_default-clause-turn
returns-in_default-clause-turn g c = λ options. calls_nothing _ _ _ _ _

-- of a value
pub returns-in_default-value_of-clause-turn : goal.returns-in_default-value_of-clause-turn
returns-in_default-value_of-clause-turn g c = λ options. calls_nothing _ _ _ _ _
