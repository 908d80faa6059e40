-- How many nodes were tried.
use Rattle.std.proofs.Common.{◌≤◌, ◌∷◌, [], ℕ, List, length, length-append, take, arith}
use Rattle.std.proofs.Common.{◌∙◌, ap, Result, Err}
use Rattle.std.proofs.lemmas.List.{length-map, length-take-le}
use Rattle.dy_dots.specs.declared.faults.Fault.{Fault}
use Rattle.dy_dots.specs.declared.faults.Fault.TheVariants.{Down}
use Rattle.dy_transport.specs.declared.tries.Try.{Try}
use Rattle.dy_reads.specs.Tries.{TriesAt, downs}

module _ {J X : Type 0} where
  -- tries that end at a node are no more than the nodes
  pub tried_count : (tried : ℕ → Result X Fault → Try J) (nodes : List ℕ) (tries : List (Try J))
      (c : ℕ) (gave : Result X Fault) → TriesAt tried nodes tries c gave
      → length tries ≤ length nodes
  tried_count tried nodes tries c gave at =
      let before = take at.0 nodes in
      let many = length-take-le at.0 nodes (omega (arith, at.1)) in
      let both = ap length at.3 ∙ length-append (downs tried before) (tried c gave ∷ []) in
      omega (arith, both, length-map before (λ node. tried node (Err Down)), many, at.1)
