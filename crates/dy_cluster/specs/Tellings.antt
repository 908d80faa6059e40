-- What sessions were told.
use Rattle.std.specs.Prelude.{◌≡◌, length}
use Rattle.dy_shares.specs.Shares.{SessionPart}

-- a session that was told nothing yet
abbrev pub IsUntold : SessionPart → Type 0
IsUntold session = (length session.acks ≡ 0) × (length session.gets ≡ 0)
