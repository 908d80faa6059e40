-- What a service knows of the one session that was told of the steps of a stretch.
use Rattle.std.proofs.Common.{◌≡◌, ◌∙◌, ◌-◌, ◌<◌, ◌==◌, ◌||◌, ◌∷◌, [], ℕ}
use Rattle.std.proofs.Common.{Bool, true, false, List, map, refl, sym, ap, arith, if◌then◌else◌}
use Rattle.std.proofs.lemmas.Bool.{eq-eqb, eqb-true}
use Rattle.std.specs.List.{list_any}
use Rattle.dy_lines.specs.Sessions.{SessionPlaces, HasSessions, session_told, was_told}
use Rattle.dy_lines.specs.StepLines.{is_told, session_of}
use Rattle.dy_shares.specs.declared.step_numbers.StepNumbers.{StepNumbers}
use Rattle.dy_serve.specs.Below.{one_session}
use Rattle.dy_serve.specs.inside.Indexed.{IsIndexed}

-- a number behind so many is told by what is left of it
same_by : (a b c d : ℕ) → (a ≡ b → c ≡ d) → (c ≡ d → a ≡ b) → (p q : Bool) →
    (a == b) ≡ p → (c == d) ≡ q → p ≡ q
same_by a b c d there back true true is was = refl
same_by a b c d there back false false is was = refl
same_by a b c d there back true false is was =
    sym (eq-eqb c d (there (eqb-true a b is))) ∙ was
same_by a b c d there back false true is was =
    sym is ∙ eq-eqb a b (back (eqb-true c d was))

same_number : (x before number : ℕ) → before < number →
    (x - before == number - before) ≡ (x == number)
same_number x before number behind =
    same_by (x - before) (number - before) x number
    (λ is. omega (arith, is, behind)) (λ is. omega (arith, is)) _ _ refl refl

any_behind : (xs : List ℕ) (before number : ℕ) → before < number →
    list_any (λ x. x == number - before) (map (λ x. x - before) xs)
    ≡ list_any (λ x. x == number) xs
any_behind [] before number behind = refl
any_behind (x ∷ xs) before number behind =
    let one = same_number x before number behind in
    let rest = any_behind xs before number behind in
    ap (λ (b : Bool). b || list_any (λ y. y == number - before) (map (λ y. y - before) xs)) one
    ∙ ap (λ (b : Bool). (x == number) || b) rest

-- so an index of what is left of the numbers tells who was told them
pub indexed : (before count : ℕ) (told here : StepNumbers) (index : SessionPlaces) →
    here.acks.items ≡ map (λ x. x - before) told.acks.items →
    here.fetches.items ≡ map (λ x. x - before) told.fetches.items →
    HasSessions count (here ∷ []) index → IsIndexed before count told index
indexed before count told here index acks fetches has number behind within =
    let same : was_told (number - before) here ≡ was_told number told =
    ap (λ (b : Bool). b || list_any (λ x. x == number - before) here.fetches.items)
    (ap (list_any (λ x. x == number - before)) acks
    ∙ any_behind told.acks.items before number behind)
    ∙ ap (λ (b : Bool). list_any (λ x. x == number) told.acks.items || b)
    (ap (list_any (λ x. x == number - before)) fetches
    ∙ any_behind told.fetches.items before number behind) in
    has.within (number - before) (omega (arith, within))
    ∙ one_place here told (number - before) number same
  where
    one_place : (n m : StepNumbers) (i j : ℕ) → was_told i n ≡ was_told j m →
        session_told (n ∷ []) i ≡ session_told (m ∷ []) j
    one_place n m i j is = grind (arith, is)

-- the session of a step is that of these numbers if it was told it
pub session_if : (session number : ℕ) (told : StepNumbers) →
    session_of (one_session session told) number
    ≡ (if is_told (one_session session told) number then session else 0)
session_if session number told = by_case (was_told number told) refl
  where
    by_case : (b : Bool) → was_told number told ≡ b →
        session_of (one_session session told) number
        ≡ (if is_told (one_session session told) number then session else 0)
    by_case true is = grind (arith, is)
    by_case false is = grind (arith, is)
