-- What a put, a delete and a get do in their session.
use Rattle.std.specs.Prelude.{◌≡◌, ℕ, Bool, true, false, List, None, Result, Ok, Err}
use Rattle.dy_dots.specs.declared.faults.Fault.{Fault}
use Rattle.dy_ring.specs.Rings.{Tokens}
use Rattle.dy_shares.specs.Shares.{SessionPart}
use Rattle.dy_cluster.specs.Lists.{list_of}
use Rattle.dy_lines.specs.declared.outcomes.Outcome.{Outcome}
use Rattle.dy_lines.specs.declared.outcomes.Word.{Word}
use Rattle.dy_lines.specs.declared.outcomes.Word.TheVariants as word
use Rattle.dy_lines.specs.declared.outcomes.Outcome.TheVariants.{Refused}
use Rattle.dy_commands.specs.Answers.{IsGetTold, IsPutTold, IsUnseated}
use Rattle.dy_commands.specs.Seats.{IsSeated, IsToldAt}
use Rattle.dy_commands.specs.declared.givens.Given.{Given}

-- the outcome tells a put of what is given, for the key's own list
abbrev pub IsWritten :
    Type 0 → Tokens → ℕ → ℕ → Given → Word → Outcome → SessionPart → SessionPart → Type 0
IsWritten J ring n w g word outcome before after =
    IsPutTold J (list_of ring n g.key) w g.key g.context g.value word outcome before after

-- the session at this place was told so, or it was refused, and then nobody was tried
abbrev pub IsTriedAt :
    ℕ → Word → Outcome → Bool → List SessionPart → List SessionPart
    → (SessionPart → SessionPart → Type 0) → Type 0
IsTriedAt place word outcome refused before after Tells =
    (refused ≡ false → IsToldAt place before after Tells)
    × (refused ≡ true → IsUnseated word outcome before after)

-- what was judged so was written at this place, if the session was not refused; or the refusal of
-- what was judged is told, whether or not the session was refused, and nobody was asked
abbrev pub RunsJudged :
    Type 0 → Tokens → ℕ → ℕ → ℕ → Word → Outcome → Bool → List SessionPart → List SessionPart
    → Result Given Fault → Type 0
RunsJudged J ring n place w word outcome refused before after (Ok g) =
    IsTriedAt place word outcome refused before after (IsWritten J ring n w g word outcome)
RunsJudged J ring n place w word outcome refused before after (Err f) =
    IsSeated before after × (outcome ≡ Refused word f None)

-- the outcome tells a get of the key, for its own list
abbrev pub IsRead :
    Type 0 → Tokens → ℕ → ℕ → List ℕ → Outcome → SessionPart → SessionPart → Type 0
IsRead J ring n r key outcome before after =
    IsGetTold J (list_of ring n key) r key outcome before after

-- the session at this place read the key that was judged so, if the session was not refused; or the
-- key's refusal is told, whether or not the session was refused, and nobody was asked
abbrev pub ReadsJudged :
    Type 0 → Tokens → ℕ → ℕ → ℕ → List ℕ → Outcome → Bool → List SessionPart → List SessionPart
    → Result (List ℕ) Fault → Type 0
ReadsJudged J ring n r place key outcome refused before after (Ok k) =
    IsTriedAt place word.Get outcome refused before after (IsRead J ring n r key outcome)
ReadsJudged J ring n r place key outcome refused before after (Err f) =
    IsSeated before after × (outcome ≡ Refused word.Get f None)
