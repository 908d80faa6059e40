-- What a function that reads a part of a value answers.
use Rattle.std.specs.Prelude.{Result, Ok, Err, MatchResult, ◌≡◌, ◌⊎◌}
use Rattle.dy_dots.specs.declared.faults.Fault.{Fault}
use Rattle.dy_dots.specs.declared.faults.Fault.TheVariants.{OutOfMemory}

-- the result's value is the definition's, seen by f, and a refusal is the definition's, or for
-- want of memory
abbrev pub IsReadingOf : {A B : Type 0} → (A → B) → Result A Fault → Result B Fault → Type 0
IsReadingOf f result definition =
    MatchResult result
    (λ x. definition ≡ Ok (f x)) (λ e. (e ≡ OutOfMemory) ⊎ (definition ≡ Err e))
