use Rattle.std.proofs.Common.{◌≡◌, ℕ, ◌<◌, get_or}
use Rattle.dy_core.specs.declared.places.Place.{Place}
use Rattle.dy_coord.proofs.get_done.are_of_homes.Given as goal

-- those before are
abbrev pub invariant-loop-place : goal.invariant-loop-place
invariant-loop-place l = (k : ℕ) (d : Place) → k < l.place-index →
    (get_or l.places k d).holder ≡ (get_or l.places k d).home
