use Rattle.std.proofs.Common.{◌≡◌, ℕ, List, take}
use Rattle.std.specs.List.{All}
use Rattle.dy_core.specs.Worlds.{layout_of}
use Rattle.dy_shares.specs.Merged.{IsMergeOf}
use Rattle.dy_quorum.proofs.merges.merge_all.Given as goal

-- the answers before this one are merged
abbrev pub invariant-loop-i : goal.invariant-loop-i
invariant-loop-i g l = record {
  merged : IsMergeOf (layout_of g.J.Naming.ring g.J.Naming.n) l.merging (take l.i l.seens);
  key : (key : List ℕ) → All (λ a. a.key ≡ key) l.seens → l.merging.key ≡ key;
}
