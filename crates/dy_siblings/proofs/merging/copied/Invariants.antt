use Rattle.std.proofs.Common.{◌≡◌, ◌≤◌, take, length, vec_capacity}
use Rattle.dy_siblings.proofs.merging.copied.Given as goal

abbrev pub invariant-loop-version : goal.invariant-loop-version
invariant-loop-version l =
    (l.copies.items ≡ take l.version-index l.versions) × (length l.versions ≤ vec_capacity l.copies)
