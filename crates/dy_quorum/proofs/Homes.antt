-- A home is looked for among places or answers, and it stands among their homes.
use Rattle.std.proofs.Common.{◌==◌, ◌≡◌, ◌∷◌, [], List, ℕ, map, refl, ap, ◌∙◌, ◌||◌}
use Rattle.std.specs.List.{list_any}
use Rattle.dy_core.specs.Logs.{Answer}
use Rattle.dy_core.specs.declared.places.Place.{Place}
use Rattle.dy_quorum.specs.Gatherings.{answer_homes, answer_place, first_answers}
use Rattle.dy_quorum.proofs.Firsts.{home_in}

-- among answers
pub at_answers : (answers : List Answer) (home : ℕ) →
    list_any (λ a. a.home == home) answers ≡ home_in (answer_homes answers) home
at_answers [] home = refl
at_answers (a ∷ answers) home = ap (λ b. (a.home == home) || b) (at_answers answers home)

-- among the places of answers
of_places : (answers : List Answer) (home : ℕ) →
    list_any (λ (p : Place). p.home == home) (map answer_place answers)
    ≡ home_in (answer_homes answers) home
of_places [] home = refl
of_places (a ∷ answers) home = ap (λ b. (a.home == home) || b) (of_places answers home)

pub at_places : (answers : List Answer) (home : ℕ) (places : List Place) →
    places ≡ map answer_place (first_answers answers) →
    list_any (λ p. p.home == home) places ≡ home_in (answer_homes (first_answers answers)) home
at_places answers home places e =
    ap (λ ps. list_any (λ (p : Place). p.home == home) ps) e ∙ of_places (first_answers answers) home
