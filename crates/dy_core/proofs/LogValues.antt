-- A worked run: node 0 makes a version, homes 0 and 1 hold it, and node 3 holds it for home 1.
use Rattle.std.proofs.Common.{◌≡◌, true, false, List, [], ◌∷◌, ◌++◌, Some, refl}
use Rattle.std.specs.FinSet as set
use Rattle.dy_siblings.specs.Siblings.{Siblings}
use Rattle.dy_preference.specs.Preferences.{may_hold}
use Rattle.dy_core.specs.Worlds.{Layout}
use Rattle.dy_core.specs.Covers.{covers_at}
use Rattle.dy_core.specs.Steps.{place_for}
use Rattle.dy_core.specs.Logs.{world_after}
use Rattle.dy_dots.specs.declared.dots.Dot.{Dot}
use Rattle.dy_core.specs.declared.steps.Step.{Step}
use Rattle.dy_core.specs.declared.steps.Step.TheVariants.{Issue, Hold, Release}

abbrev first : Dot
first = record { node = 0; counter = 1 }

abbrev row : Siblings
row = record { key = 97 ∷ []; versions = record { key = 97 ∷ []; dot = first; past = set.empty; value = Some (120 ∷ []) } ∷ [] }

abbrev steps : List Step
steps = Issue 0 (97 ∷ []) set.empty (Some (120 ∷ [])) ∷ Hold (place_for 0 0) row ∷ Hold (place_for 1 1) row ∷ Hold (place_for 3 1) row ∷ []

own_home : covers_at (world_after steps) (97 ∷ []) first 0 0 ≡ true
own_home = simp (set.contains-empty)

stand_in : covers_at (world_after steps) (97 ∷ []) first 3 1 ≡ true
stand_in = simp (set.contains-empty)

not_asked : covers_at (world_after steps) (97 ∷ []) first 2 2 ≡ false
not_asked = refl

released : covers_at (world_after (steps ++ Release (place_for 3 1) (97 ∷ []) first ∷ [])) (97 ∷ []) first 3 1 ≡ false
released = simp (set.contains-empty)

abbrev three : Layout
three = record { homes = λ _. 0 ∷ 1 ∷ 2 ∷ []; count = 3 }

for_home : may_hold (three.homes (97 ∷ [])) 3 1 ≡ true
for_home = refl

not_for_another : may_hold (three.homes (97 ∷ [])) 2 1 ≡ false
not_for_another = refl
