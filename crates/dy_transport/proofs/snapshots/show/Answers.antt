use Rattle.std.proofs.Common.{ap}
use Rattle.dy_transport.specs.Snapshots.{snapshot_of}
use Rattle.dy_transport.proofs.snapshots.show.Goals as goal

-- src/snapshots.rt:7:1
pub returns : goal.returns
returns g c = ap snapshot_of c.of.ensures
