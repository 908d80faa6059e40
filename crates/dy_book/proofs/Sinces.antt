-- What a session was told is in the log, so its since is no more than the steps of the log.
use Rattle.std.proofs.Common.{ℕ, Bool, true, false, ◌+◌, ◌-◌, ◌≤◌, List, [], ◌∷◌, length, map, ap, ◌∙◌, if◌then◌else◌, arith}
use Rattle.std.specs.List.{All}
use Rattle.std.proofs.lemmas.List.{map-append}
use Rattle.std.proofs.lemmas.List.Elements.{All-head, All-tail}
use Rattle.std.proofs.lemmas.Option.{slice_get_within}
use Rattle.dy_core.specs.Steps.{place_for}
use Rattle.dy_core.specs.Logs.{Answer, IsAnswer}
use Rattle.dy_core.specs.declared.steps.Step.{Step}
use Rattle.dy_core.specs.declared.steps.Step.TheVariants.{Issue, Hold, Release, Fetch, Ack}
use Rattle.dy_shares.specs.declared.entries.Entry.{Entry}
use Rattle.dy_shares.specs.Shares.{AckTold, GetMatches, GetTold, SessionBelongsTo, SessionPart}
use Rattle.dy_shares.specs.Shares.{ack_at, acks_from, answer_numbers, greatest, names, since_of, steps_of}
use Rattle.dy_shares.proofs.Owners.{steps_of-length}
use Rattle.dy_shares.proofs.Sessions.{greatest-append}

ack_within : (at : ℕ) (s : Step) → greatest (map (λ a. a.at) (ack_at at s)) ≤ at
ack_within at (Issue n key context value) = omega arith
ack_within at (Hold p row) = omega arith
ack_within at (Release p key d) = omega arith
ack_within at (Fetch p key) = omega arith
ack_within at (Ack key d w) = omega arith

told_within : (b : Bool) (at : ℕ) (s : Step) → greatest (map (λ a. a.at) (if b then ack_at at s else [])) ≤ at
told_within true at s = ack_within at s
told_within false at s = omega arith

acks_within : (at session : ℕ) (log : List Entry) → 1 ≤ at → greatest (map (λ a. a.at) (acks_from at session log)) + 1 ≤ at + length log
acks_within at session [] some = omega (arith, some)
acks_within at session (e ∷ es) some =
    let here = if names session e.told then ack_at at e.step else [] in
    let more = acks_from (at + 1) session es in
    let both = ap greatest (map-append (λ (a : AckTold). a.at) here more) ∙ greatest-append (map (λ a. a.at) here) (map (λ a. a.at) more) in
    omega (arith, both, told_within (names session e.told) at e.step, acks_within (at + 1) session es (omega arith))

row_within : (steps : List Step) (answers : List Answer) → All (IsAnswer steps) answers → greatest (map (λ a. a.at) answers) ≤ length steps
row_within steps [] are = omega arith
row_within steps (a ∷ answers) are =
    let first = All-head (IsAnswer steps) a answers are in
    omega (arith, first.from_one, slice_get_within steps (a.at - 1) (Fetch (place_for a.holder a.home) a.key) first.is_fetch, row_within steps answers (All-tail (IsAnswer steps) a answers are))

gets_within : (steps : List Step) (r : ℕ) (gets : List GetTold) → All (GetMatches steps r) gets → greatest (answer_numbers gets) ≤ length steps
gets_within steps r [] match = omega arith
gets_within steps r (g ∷ gets) match =
    let first = All-head (GetMatches steps r) g gets match in
    omega (arith, greatest-append (map (λ a. a.at) g.answers) (answer_numbers gets), row_within steps g.answers first.1.each_is, gets_within steps r gets (All-tail (GetMatches steps r) g gets match))

pub since_within : (log : List Entry) (r : ℕ) (s : SessionPart) → SessionBelongsTo log r s → since_of s ≤ length log
since_within log r s is =
    let acks = ap (λ (acks : List AckTold). greatest (map (λ a. a.at) acks)) is.acks_are in
    omega (arith, acks, acks_within 1 s.session log (omega arith), gets_within (steps_of log) r s.gets is.gets_match, steps_of-length log)
