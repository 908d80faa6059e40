-- The step numbers that a session keeps of what it was told.
use Rattle.std.specs.Prelude.{◌≡◌, map}
use Rattle.dy_shares.specs.Shares.{SessionPart, answer_numbers}
use Rattle.dy_shares.specs.declared.step_numbers.StepNumbers.{StepNumbers}

-- the numbers are those of the session's acks, and of the answers of its gets
pub record AreNumbersOf (n : StepNumbers) (s : SessionPart) : Type 0 where
  pub acks_are : n.acks.items ≡ map (λ a. a.at) s.acks
  pub fetches_are : n.fetches.items ≡ answer_numbers s.gets
