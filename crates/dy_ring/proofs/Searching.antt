-- The place of a position among rising tokens.
use Rattle.std.proofs.Common.{◌≡◌, ℕ, zero, suc, ◌+◌, ◌<◌, ◌≤◌, true, false, nat_le, List, [], ◌∷◌, length, take, drop, subst, sym, arith}
use Rattle.std.specs.List.{All, AllWithin}
use Rattle.std.specs.List.Sorted.{IsNonDecreasingBy}
use Rattle.std.proofs.lemmas.Bool.{leb-true, leb-false}
use Rattle.std.proofs.lemmas.List.{get_or-take, get_or-drop, length-take, length-drop}
use Rattle.dy_ring.specs.Rings.{Rises}

-- what rises never falls
pub never_falls : {X : Type 0} (f : X → ℕ) (xs : List X) → Rises f xs → IsNonDecreasingBy f xs
never_falls f [] rise i j d le lt = absurd (omega arith)
never_falls f (x ∷ xs) rise zero zero d le lt = omega arith
never_falls f (x ∷ xs) rise zero (suc j) d le lt = omega (arith, rise.0 j d (omega arith))
never_falls f (x ∷ xs) rise (suc i) zero d le lt = absurd (omega arith)
never_falls f (x ∷ xs) rise (suc i) (suc j) d le lt = never_falls f xs rise.1 i j d (omega arith) (omega arith)

pub passed_by : (position i : ℕ) (ts : List (ℕ × ℕ)) → AllWithin (λ t. nat_le t.0 position ≡ true) ts 0 i → All (λ t. t.0 ≤ position) (take i ts)
passed_by position i ts passed k d lt =
    let below : k < i = omega (arith, length-take i ts) in
    subst (λ (t : ℕ × ℕ). t.0 ≤ position) (sym (get_or-take i ts k d below)) (leb-true _ position (passed k d (omega arith) below))

pub ahead_of : (position i : ℕ) (ts : List (ℕ × ℕ)) → AllWithin (λ t. nat_le t.0 position ≡ false) ts i (length ts) → All (λ t. position < t.0) (drop i ts)
ahead_of position i ts ahead k d lt =
    let within : i + k < length ts = omega (arith, length-drop i ts) in
    subst (λ (t : ℕ × ℕ). position < t.0) (sym (get_or-drop i ts k d)) (leb-false _ position (ahead (i + k) d (omega arith) within))
