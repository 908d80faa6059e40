-- A walk that stops once so many nodes are met.
use Rattle.std.proofs.Common.{◌≡◌, ℕ, ◌≤◌, Bool, true, false, List, [], ◌∷◌, ◌++◌, length, take}
use Rattle.std.proofs.Common.{refl, sym, ap, ◌∙◌, arith, append_assoc}
use Rattle.std.proofs.lemmas.List.{take_all, length-append, append-nil}
use Rattle.std.proofs.Math.Seq.{take-append_seam}
use Rattle.dy_preference.specs.inside.Walks.{met}
use Rattle.dy_preference.proofs.Rising.{has}

-- the nodes that are met go behind those met before
met_grows : (xs : List ℕ) (ts : List (ℕ × ℕ)) → (rest : List ℕ) × (met xs ts ≡ xs ++ rest)
met_grows xs [] = ([], sym (append-nil xs))
met_grows xs (t ∷ ts) = go (met_grows xs ts) (met_grows (xs ++ t.1 ∷ []) ts) (has xs t.1) refl
  where
    go : ((rest : List ℕ) × (met xs ts ≡ xs ++ rest)) →
        ((rest : List ℕ) × (met (xs ++ t.1 ∷ []) ts ≡ (xs ++ t.1 ∷ []) ++ rest)) →
        (c : Bool) → has xs t.1 ≡ c → (rest : List ℕ) × (met xs (t ∷ ts) ≡ xs ++ rest)
    go a b true is = rw is a
    go a b false is = rw is (t.1 ∷ b.0, b.1 ∙ append_assoc xs (t.1 ∷ []) b.0)

-- so many nodes are met, and those that come later don't count
pub met_stops : (n : ℕ) (xs all : List ℕ) (ts : List (ℕ × ℕ)) → length xs ≡ n → met xs ts ≡ all →
    xs ≡ take n all
met_stops n xs all ts full is =
    let more = met_grows xs ts in
    sym (ap (λ k. take k all) (sym full) ∙ ap (take (length xs)) (sym is ∙ more.1)
    ∙ take-append_seam xs more.0)

-- where both parts of a walk meet no more than so many, to stop is to walk on
pub met_whole : (n : ℕ) (a b : List (ℕ × ℕ)) → length (met (met [] a) b) ≡ n →
    take n (met (take n (met [] a)) b) ≡ met (met [] a) b
met_whole n a b full =
    let more = met_grows (met [] a) b in
    let few : length (met [] a) ≤ n =
    omega (arith, ap length more.1, length-append (met [] a) more.0, full) in
    ap (λ xs. take n (met xs b)) (take_all n (met [] a) few)
    ∙ take_all n (met (met [] a) b) (omega arith)
