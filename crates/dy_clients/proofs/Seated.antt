-- Clients of which it is said so, each by its number, and one more behind the others, or one less.
use Rattle.std.proofs.Common.{◌≡◌, ◌∙◌, ◌++◌, ◌∷◌, ◌⊎◌, ◌&&◌, [], ℕ, zero, suc, List, length}
use Rattle.std.proofs.Common.{Bool, true, eqb, Some, inl, inr, refl, ap, sym, subst}
use Rattle.std.proofs.lemmas.Bool.{and_parts, eqb-true}
use Rattle.std.proofs.lemmas.List.Elements.{All-cons, All-head, All-nil, All-tail}
use Rattle.std.specs.List.{All, slice_get}
use Rattle.dy_shares.specs.Shares.{SessionPart}
use Rattle.dy_clients.specs.Tellings.{AreAnswered, ClientAnswer}

-- what all have, the first of them have
pub all_front : {X : Type 0} (P : X → Type 0) (xs more : List X) → All P (xs ++ more) → All P xs
all_front P [] more all = All-nil P
all_front P (x ∷ xs) more all =
    All-cons P x xs (All-head P x (xs ++ more) all)
    (all_front P xs more (All-tail P x (xs ++ more) all))

before_or_last : {S : Type 0} (xs : List S) (x y : S) (n : ℕ) →
    slice_get (xs ++ x ∷ []) n ≡ Some y → (slice_get xs n ≡ Some y) ⊎ ((n ≡ length xs) × (x ≡ y))
before_or_last [] x y zero is = inr (refl, (cc))
before_or_last [] x y (suc n) is = absurd (cc)
before_or_last (z ∷ xs) x y zero is = inl is
before_or_last (z ∷ xs) x y (suc n) is = elim (before_or_last xs x y n is) [
  | inl there ↦ inl there
  | inr last ↦ inr (ap suc last.0, last.1)
]

-- what stands in a list stands in it with one more behind
kept_before : {S : Type 0} (xs : List S) (x y : S) (n : ℕ) → slice_get xs n ≡ Some y →
    slice_get (xs ++ x ∷ []) n ≡ Some y
kept_before [] x y zero is = absurd (cc)
kept_before [] x y (suc n) is = absurd (cc)
kept_before (z ∷ xs) x y zero is = is
kept_before (z ∷ xs) x y (suc n) is = kept_before xs x y n is

-- and that one is the last
there_last : {S : Type 0} (xs : List S) (x : S) (n : ℕ) → n ≡ length xs →
    slice_get (xs ++ x ∷ []) n ≡ Some x
there_last [] x zero is = refl
there_last [] x (suc n) is = absurd (cc)
there_last (z ∷ xs) x zero is = absurd (cc)
there_last (z ∷ xs) x (suc n) is = there_last xs x n (cc)

-- with a client more, of whose answer and session it is said so by its number
pub answered_more : (told : ℕ → ClientAnswer → SessionPart → Type 0) (answers : List ClientAnswer)
    (tellings : List SessionPart) (answer : ClientAnswer) (telling : SessionPart)
    → length answers ≡ length tellings → AreAnswered told answers tellings
    → told (length tellings) answer telling →
    AreAnswered told (answers ++ answer ∷ []) (tellings ++ telling ∷ [])
answered_more told answers tellings answer telling many are is number other there =
    elim (before_or_last tellings telling other number there) [
      | inl was ↦
          let one = are number other was in
          (one.0, kept_before answers answer one.0 number one.1, one.2)
      | inr last ↦ (
        answer,
        there_last answers answer number (last.0 ∙ sym many),
        subst (told number answer) last.1
            (subst (λ (n : ℕ). told n answer telling) (sym last.0) is),
      )
    ]

-- the same where it was found that the client has run, and has the number of its place
pub answered_next : (told : ℕ → ClientAnswer → SessionPart → Type 0)
    (answers all_answers : List ClientAnswer) (tellings all_tellings : List SessionPart)
    (answer : ClientAnswer) (telling : SessionPart) (were has_run : Bool) (number place : ℕ)
    → all_answers ≡ answers ++ answer ∷ [] → all_tellings ≡ tellings ++ telling ∷ []
    → (were && has_run) && eqb number place ≡ true → place ≡ length tellings
    → length answers ≡ length tellings → (were ≡ true → AreAnswered told answers tellings)
    → (has_run ≡ true → told number answer telling) → AreAnswered told all_answers all_tellings
answered_next told answers all_answers tellings all_tellings answer telling were has_run number
    place answers_are tellings_are all is many before own =
    let both = and_parts (were && has_run) (eqb number place) all in
    let run = and_parts were has_run both.0 in
    let more = answered_more told answers tellings answer telling many (before run.0)
    (subst (λ (n : ℕ). told n answer telling) (eqb-true number place both.1 ∙ is) (own run.1)) in
    subst (λ (ys : List ClientAnswer). AreAnswered told ys all_tellings) (sym answers_are)
    (subst (λ (xs : List SessionPart). AreAnswered told (answers ++ answer ∷ []) xs)
    (sym tellings_are) more)
