-- Places that are noted by numbers.
use Rattle.std.specs.Prelude.{◌≡◌, ◌==◌, ◌<◌, ℕ, List, get_or, length, if◌then◌else◌}
use Rattle.std.specs.List.{list_any}

-- the place stands by each of these numbers that there is room for, and all else as before
pub record IsNoted (old : List ℕ) (numbers : List ℕ) (place : ℕ) (new : List ℕ) : Type 0 where
  pub length_is : length new ≡ length old
  pub places_are : (number d : ℕ) → number < length old →
      get_or new number d
      ≡ (if list_any (λ x. x == number) numbers then place else get_or old number d)
