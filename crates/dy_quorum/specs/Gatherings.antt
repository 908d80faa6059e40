-- Which answers of a get are used: the first of each home (Dynamo, section 4.5).
use Rattle.std.specs.Prelude.{◌≡◌, ◌<◌, ◌++◌, ◌∷◌, List, ℕ, length, map, nat_eq, refl}
use Rattle.std.specs.List.{All, Contains, IsDistinct}
use Rattle.std.specs.Coded.{Coded, coded×, coded_ℕ, coded_list, code_by}
use Rattle.dy_core.specs.Logs.{Answer}
use Rattle.dy_core.specs.declared.places.Place.{Place}
use Rattle.dy_shares.specs.Codes.{answer_code}
use Rattle.dy_quorum.specs.Firsts.{firsts_by}

-- what a gathering is seen as: how many homes its get needs, how many answers it has room for, and
-- those added, in order
pub record Gathered : Type 0 where
  pub r : ℕ
  pub room : ℕ
  pub seens : List Answer

-- the code of a gathering
abbrev pub gathered_code : Coded Gathered
gathered_code =
    code_by (ℕ × (ℕ × List Answer)) (coded× coded_ℕ (coded× coded_ℕ (coded_list answer_code)))
    (λ g. (g.r, (g.room, g.seens))) (λ p. record { r = p.0; room = p.1.0; seens = p.1.1 })
    (λ _. refl)

-- the homes of answers
abbrev pub answer_homes : List Answer → List ℕ
answer_homes answers = map (λ a. a.home) answers

-- the first answer of each home, in the order in which they were read
abbrev pub first_answers : List Answer → List Answer
first_answers answers = firsts_by (λ a. a.home) answers

-- where an answer comes from
abbrev pub answer_place : Answer → Place
answer_place a = record { holder = a.holder; home = a.home }

-- these are the first of each home: among all, of distinct homes, and each that none of its home
-- stands before
pub record AreFirstAnswers (answers firsts : List Answer) : Type 0 where
  pub among : All (λ a. Contains answers a) firsts
  pub homes : IsDistinct nat_eq (answer_homes firsts)
  pub first : (before after : List Answer) (a : Answer) → answers ≡ before ++ a ∷ after →
      ((b : Answer) → Contains before b → b.home ≡ a.home → ⊥) → Contains firsts a

-- the answers that a get uses: r of the key, of distinct homes, each after so many steps
pub record AreUsed (key : List ℕ) (r since : ℕ) (answers : List Answer) : Type 0 where
  pub count : length answers ≡ r
  pub of_key : All (λ a. a.key ≡ key) answers
  pub homes : IsDistinct nat_eq (answer_homes answers)
  pub later : All (λ a. since < a.at) answers
