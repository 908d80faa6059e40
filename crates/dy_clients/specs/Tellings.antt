-- What clients answered, and what their sessions were told.
use Rattle.std.specs.Prelude.{◌≡◌, ℕ, List, Result, Some, slice_get}
use Rattle.dy_dots.specs.declared.faults.Fault.{Fault}
use Rattle.dy_shares.specs.Shares.{SessionPart}

-- what a client answers
abbrev pub ClientAnswer : Type 0
ClientAnswer = Result (Unit {0}) Fault

-- what is said of a client, by its number, of its answer and of its session
abbrev pub ClientSaying : Type 1
ClientSaying = ℕ → ClientAnswer → SessionPart → Type 0

-- the session of each client was told so, by the client's number
abbrev pub AreTold : (ℕ → SessionPart → Type 0) → List SessionPart → Type 0
AreTold told tellings =
    (number : ℕ) (telling : SessionPart) → slice_get tellings number ≡ Some telling →
    told number telling

-- what is told, as a fact that has one proof at most, so that a type can have it
abbrev pub as_fact : (ℕ → SessionPart → Type 0) → ℕ → SessionPart → Type 0
as_fact told number telling = ∥ told number telling ∥₁

-- of the session of each client, and of the client's answer, it is said so, by the client's number
abbrev pub AreAnswered : ClientSaying → List ClientAnswer → List SessionPart → Type 0
AreAnswered told answers tellings =
    AreTold (λ number telling. (answer : ClientAnswer) × (slice_get answers number ≡ Some answer)
    × told number answer telling) tellings

-- what is said of a client's answer and session, as such a fact
abbrev pub as_answered : ClientSaying → ClientSaying
as_answered told number answer telling = ∥ told number answer telling ∥₁

-- whatever the one says of a client, the other says
abbrev pub SaysToo : ClientSaying → ClientSaying → Type 0
SaysToo one other =
    (number : ℕ) (answer : ClientAnswer) (telling : SessionPart) → one number answer telling →
    other number answer telling
