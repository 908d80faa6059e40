-- What the scenes of the tests need.
use Rattle.std.proofs.Common.{◌≡◌, ℕ, ◌+◌, ◌-◌, List, [], ◌∷◌, ◌++◌, Some, length, nat_eq, slice_get, take, refl, sym, ap, ◌∙◌, subst, arith}
use Rattle.std.specs.List.{IsDistinct}
use Rattle.std.proofs.lemmas.List.{take-append-le}
use Rattle.dy_siblings.specs.Siblings.{IsSameRow}
use Rattle.dy_siblings.specs.declared.versions.Version.{Version}
use Rattle.dy_core.specs.Worlds.{row_at}
use Rattle.dy_core.specs.Steps.{place_for}
use Rattle.dy_core.specs.Logs.{world_after, IsAnswer}
use Rattle.dy_core.specs.declared.steps.Step.TheVariants.{Fetch}
use Rattle.dy_shares.specs.declared.entries.Entry.{Entry}
use Rattle.dy_shares.specs.Shares.{steps_of, untold, HasSession}
use Rattle.dy_shares.proofs.Owners.{steps_of-append, steps_of-length}

-- in no list there is nobody
pub nobody_has : (session : ℕ) → HasSession session [] → ⊥
nobody_has session has = omega (arith, has.1)

got_last : {X : Type 0} (xs : List X) (x : X) → slice_get (xs ++ x ∷ []) (length xs) ≡ Some x
got_last [] x = refl
got_last (y ∷ xs) x = got_last xs x

taken_all : {X : Type 0} (xs : List X) → take (length xs) xs ≡ xs
taken_all [] = refl
taken_all (x ∷ xs) = ap (λ ys. x ∷ ys) (taken_all xs)

-- the answer to a fetch is the row that is held there, and the fetch is the last step
pub answers_last : (log : List Entry) (holder home : ℕ) (key : List ℕ) (row : List Version) → IsSameRow row (row_at (world_after (steps_of log)) holder home key)
    → IsAnswer (steps_of (log ++ untold (Fetch (place_for holder home) key) ∷ [])) (record { at = length log + 1; holder = holder; home = home; key = key; row = row })
answers_last log holder home key row is =
    let ss = steps_of log in
    let f = Fetch (place_for holder home) key in
    let all : steps_of (log ++ untold f ∷ []) ≡ ss ++ f ∷ [] = steps_of-append log (untold f ∷ []) in
    let number : length log + 1 - 1 ≡ length ss = omega (arith, steps_of-length log) in
    let before : take (length log + 1 - 1) (ss ++ f ∷ []) ≡ ss = ap (λ n. take n (ss ++ f ∷ [])) number ∙ (take-append-le (length ss) ss (f ∷ []) (omega arith) ∙ taken_all ss) in
    subst (λ xs. IsAnswer xs (record { at = length log + 1; holder = holder; home = home; key = key; row = row })) (sym all)
    (record {
      from_one = omega arith;
      is_fetch = ap (slice_get (ss ++ f ∷ [])) number ∙ got_last ss f;
      is_row = subst (λ xs. IsSameRow row (row_at (world_after xs) holder home key)) (sym before) is;
    })

pub none_twice : IsDistinct nat_eq []
unfolding IsDistinct
none_twice = tt

pub one_alone : (n : ℕ) → IsDistinct nat_eq (n ∷ [])
unfolding IsDistinct
one_alone n = (tt, tt)
