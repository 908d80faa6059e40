-- What a storm prints of its steps, a line at a time.
use Rattle.std.proofs.Common.{◌≡◌, ℕ, List, [], ◌∷◌, ◌++◌, ◌+◌, ◌<◌, length, ap, refl, arith}
use Rattle.std.proofs.Common.{◌∙◌}
use Rattle.std.specs.List.{enumerate_from, flat_map}
use Rattle.dy_shares.specs.declared.kept_steps.KeptStep.{KeptStep}
use Rattle.dy_lines.specs.Steps.{step_text}
use Rattle.dy_lines.specs.Texts.{line}
use Rattle.dy_storm.specs.Traces.{step_line}

-- where two say the same of each number, so do their lines
pub same_lines : {X : Type 0} (f g : ℕ × X → List ℕ) (first : ℕ) (xs : List X)
    → ((number : ℕ) (x : X) → number < first + length xs → f (number, x) ≡ g (number, x)) →
    flat_map f (enumerate_from first xs) ≡ flat_map g (enumerate_from first xs)
same_lines f g first [] same = refl
same_lines {X = X} f g first (x ∷ xs) same =
    let one : f (first, x) ≡ g (first, x) = same first x (omega arith) in
    let more : flat_map f (enumerate_from (first + 1) xs) ≡ flat_map g (enumerate_from (first + 1) xs) =
    same_lines f g (first + 1) xs
    (λ (number : ℕ) (y : X) below. same number y (omega (arith, below))) in
    ap (λ l. l ++ flat_map f (enumerate_from (first + 1) xs)) one
    ∙ ap (λ l. g (first, x) ++ l) more

-- a line with the parts of the step
pub step_line-is : (session_of : ℕ → ℕ) (number : ℕ) (k : KeptStep) (n session : ℕ)
    → n ≡ number → session ≡ session_of n →
    line (step_text n session k) ≡ step_line session_of (number, k)
step_line-is session_of number k n session at told =
    ap (λ (s : ℕ). line (step_text n s k)) told ∙ ap (λ (m : ℕ). step_line session_of (m, k)) at
