-- The tokens of a storm's ring: each node has one, and no two nodes have the same.
use Rattle.std.proofs.Common.{◌≡◌, ℕ, zero, suc, ◌*◌, ◌^◌, ◌≤◌, ◌==◌, false, List, [], ◌∷◌}
use Rattle.std.proofs.Common.{refl, arith}
use Rattle.std.specs.Prelude.{Result, IsOkUnless}
use Rattle.std.specs.List.{count_by, concat}
use Rattle.std.proofs.lemmas.Bool.{le-ltb}
use Rattle.std.proofs.lemmas.List.Elements.{All-nil, All-cons}
use Rattle.std.proofs.lemmas.List.Sorted.{IsPermutation-refl}
use Rattle.dy_dots.specs.declared.faults.Fault.{Fault}
use Rattle.dy_dots.specs.declared.faults.Fault.TheVariants.{OutOfMemory}
use Rattle.dy_ring.specs.Rings.{Rises, Tokens}
use Rattle.dy_ring.specs.Lists.{IsFilled, MakesUnlessMemory, has_clash, lacks_token}
use Rattle.dy_ring.proofs.Making.{count_at, count_rising, count_sorted}
use Rattle.dy_storm.specs.Clusters.{five_tokens}

each_has : (node : ℕ) → lacks_token five_tokens node ≡ false
each_has zero = refl
each_has (suc zero) = refl
each_has (suc (suc zero)) = refl
each_has (suc (suc (suc zero))) = refl
each_has (suc (suc (suc (suc zero)))) = refl
each_has (suc (suc (suc (suc (suc node))))) =
    rw (le-ltb (suc (suc (suc (suc (suc node))))) 5 (omega arith)) refl

filled : IsFilled five_tokens
filled = (refl, each_has)

-- each token with its node
abbrev pairs : List (ℕ × ℕ)
pairs =
    (32 * 2 ^ 120, 0) ∷ (96 * 2 ^ 120, 1) ∷ (160 * 2 ^ 120, 2) ∷ (208 * 2 ^ 120, 3)
    ∷ (240 * 2 ^ 120, 4) ∷ []

rise : Rises (λ t. t.0) pairs
rise = search (arith, All-nil, All-cons)

no_clash : (position : ℕ) → has_clash five_tokens position ≡ false
no_clash position =
    let same : count_by (λ (x : ℕ). x == position) (concat five_tokens) ≡ count_at position pairs =
    count_sorted position five_tokens pairs (IsPermutation-refl pairs) in
    let few : count_at position pairs ≤ 1 = count_rising position pairs rise in
    le-ltb 1 (count_by (λ (x : ℕ). x == position) (concat five_tokens)) (omega (arith, same, few))

-- so lists of these tokens are refused for want of memory alone
pub spares : {lists : List (List ℕ)} (made : Result Tokens Fault) → MakesUnlessMemory lists made →
    lists ≡ five_tokens → IsOkUnless made OutOfMemory
spares made makes same = makes (rw same filled) (λ position. rw same (no_clash position))
