use Rattle.std.proofs.Common.{◌≡◌, take, drop, map}
use Rattle.dy_index.specs.inside.Held.{released}
use Rattle.dy_index.proofs.custodies.give_up.Given as goal

abbrev pub invariant-loop-custody : goal.invariant-loop-custody
invariant-loop-custody l = record {
  done : take l.custody-index l.places ≡ map (released l.holder l.home l.key l.dot)
      (take l.custody-index l.initial.places);
  left : drop l.custody-index l.places ≡ drop l.custody-index l.initial.places;
}
