-- What a snapshot shows.
use Rattle.std.specs.declared.snapshot.Snapshot.{Snapshot}

-- the snapshot of a value
abbrev pub snapshot_of : {T : Type 0} → T → Snapshot T
snapshot_of x = record { marker = record {}; value = x }
