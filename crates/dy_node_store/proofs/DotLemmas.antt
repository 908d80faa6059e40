-- Versions dropped dot by dot.
use Rattle.std.proofs.Common.{◌≡◌, true, false, not, ◌||◌, cond, List, [], ◌∷◌, refl, ap}
use Rattle.std.specs.List.{list_any}
use Rattle.dy_dots.specs.Dots.{DotNumbers, same_dot}
use Rattle.dy_siblings.specs.Versions.{VersionParts}
use Rattle.dy_siblings.specs.Siblings.{without}
use Rattle.dy_node_store.specs.Rows.{without_dots}

-- with no dots, all stay
pub without_dots_none : (vs : List VersionParts) → without_dots vs [] ≡ vs
without_dots_none [] = refl
without_dots_none (v ∷ vs) = ap (λ us. v ∷ us) (without_dots_none vs)

-- one dot first, and then the others
pub without_dots-without : (vs : List VersionParts) (d : DotNumbers) (ds : List DotNumbers) → without_dots (without vs d) ds ≡ without_dots vs (d ∷ ds)
without_dots-without [] d ds = refl
without_dots-without (v ∷ vs) d ds =
    let rest = without_dots-without vs d ds in
    elim (same_dot v.dot d) as (λ b. without_dots (cond (not b) (v ∷ without vs d) (without vs d)) ds ≡ cond (not (b || list_any (λ e. same_dot v.dot e) ds)) (v ∷ without_dots vs (d ∷ ds)) (without_dots vs (d ∷ ds))) [
      | true ↦ rest
      | false ↦ elim (list_any (λ e. same_dot v.dot e) ds) as (λ a. cond (not a) (v ∷ without_dots (without vs d) ds) (without_dots (without vs d) ds) ≡ cond (not a) (v ∷ without_dots vs (d ∷ ds)) (without_dots vs (d ∷ ds))) [
        | true ↦ rest
        | false ↦ ap (λ us. v ∷ us) rest
      ]
    ]
