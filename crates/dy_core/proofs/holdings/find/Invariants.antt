use Rattle.std.proofs.Common.{◌≡◌, drop}
use Rattle.dy_core.specs.inside.Meanings.{row_in}
use Rattle.dy_core.proofs.holdings.find.Given as goal

abbrev pub invariant-loop-holding : goal.invariant-loop-holding
invariant-loop-holding l = row_in l.held l.holder l.home l.key ≡ row_in (drop l.holding-index l.held) l.holder l.home l.key
