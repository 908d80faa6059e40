-- What the sessions of a storm were told together.
use Rattle.std.proofs.Common.{◌≡◌, ◌+◌, ◌*◌, ◌≤◌, ℕ, List, length, get_or, add-mul, arith}
use Rattle.std.proofs.Math.Bridge.{le_prop}
use Rattle.std.proofs.Math.Logic.{∥∥₁_elim}
use Rattle.std.specs.List.{sum_by}
use Rattle.std.proofs.lemmas.List.Sums.{sum_by-le}
use Rattle.std.proofs.lemmas.Option.{slice_get-get_or}
use Rattle.dy_shares.specs.Shares.{SessionPart}
use Rattle.dy_book.specs.Audits.{count_acks, count_gets}
use Rattle.dy_cluster.specs.Settings.{Setting}
use Rattle.dy_clients.specs.Tellings.{AreTold, as_fact}
use Rattle.rand_pcg.specs.Lcg.{Lcg}
use Rattle.dy_storm.specs.Turns.{AreTurns}
use Rattle.dy_storm.proofs.Growing.{turns_tell}

-- where each was told so much at most, all were told no more than so much for each
most_told : (told : ℕ → SessionPart → Type 0) (count : SessionPart → ℕ) (most : ℕ)
    → ((number : ℕ) (telling : SessionPart) → told number telling → count telling ≤ most)
    → (tellings : List SessionPart) → AreTold (as_fact told) tellings →
    sum_by count tellings ≤ length tellings * most
most_told told count most each tellings are =
    sum_by-le count most tellings (λ k d within.
    ∥∥₁_elim (are k (get_or tellings k d) (slice_get-get_or tellings k d within)) le_prop
    (each k (get_or tellings k d)))

-- so many clients that make so many turns are told no more than two for each turn
pub turns_most : (s : Setting) (generators : ℕ → Lcg) (clients turns : ℕ)
    (tellings : List SessionPart) → length tellings ≡ clients
    → AreTold (as_fact (λ number telling. AreTurns s (generators number) number turns telling))
    tellings → count_acks tellings + count_gets tellings ≤ 2 * clients * turns
turns_most s generators clients turns tellings many are =
    let told : ℕ → SessionPart → Type 0 =
    λ number telling. AreTurns s (generators number) number turns telling in
    let acks : count_acks tellings ≤ length tellings * turns =
    most_told told (λ t. length t.acks) turns
    (λ number telling is. (turns_tell s (generators number) number turns telling is).1) tellings are in
    let gets : count_gets tellings ≤ length tellings * turns =
    most_told told (λ t. length t.gets) turns
    (λ number telling is. (turns_tell s (generators number) number turns telling is).0) tellings are in
    let twice : 2 * clients ≡ length tellings + length tellings = omega (arith, many) in
    rw twice (omega (arith, add-mul (length tellings) (length tellings) turns, acks, gets))
