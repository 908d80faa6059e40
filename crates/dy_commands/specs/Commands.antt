-- What a command of a script does.
use Rattle.std.specs.Prelude.{◌≡◌, ℕ, false, List, [], None, Result, length}
use Rattle.dy_dots.specs.declared.faults.Fault.{Fault}
use Rattle.dy_dots.specs.declared.faults.Fault.TheVariants.{Down}
use Rattle.dy_script.specs.Orders.{CommandParts, WriteParts, puts, deletes, gets}
use Rattle.dy_script.specs.Orders.{downs, ups, sets_mode, delivers, hands_off, shows}
use Rattle.dy_shares.specs.Shares.{SessionPart}
use Rattle.dy_cluster.specs.Named.{IsNodeOf}
use Rattle.dy_cluster.specs.Settings.{Setting}
use Rattle.dy_lines.specs.declared.outcomes.Outcome.{Outcome}
use Rattle.dy_lines.specs.declared.outcomes.Outcome.TheVariants.{Done, Refused}
use Rattle.dy_lines.specs.declared.outcomes.Word.{Word}
use Rattle.dy_lines.specs.declared.outcomes.Word.TheVariants as word
use Rattle.dy_plans.specs.Openings.{given_or}
use Rattle.dy_commands.specs.Answers.{IsDeliveryTold, IsPassTold, IsShowTold}
use Rattle.dy_commands.specs.Seats.{OpensSession, Seated, seat_of}
use Rattle.dy_commands.specs.Texts.{IsDeleteJudged, IsKeyJudged, IsPutJudged}
use Rattle.dy_commands.specs.Writes.{ReadsJudged, RunsJudged}
use Rattle.dy_commands.specs.declared.givens.Given.{Given}
use Rattle.dy_commands.specs.declared.seats.Seats.{Seats}

-- no session is opened yet
abbrev pub none_seated : Seated
none_seated = record { numbers = []; tellings = []; refused = false }

-- what was judged so was written in the session of this number, in a cluster of this setting; the
-- session was opened if it was not there, or was refused
pub record IsWrite (s : Setting) (number w : ℕ) (word : Word) (judged : Result Given Fault)
    (outcome : Outcome) (before after : Seated) : Type 0 where
  pub opens : OpensSession number before after
  pub told : RunsJudged s.book s.ring s.n (seat_of number after.numbers) w word outcome
      after.refused before.tellings after.tellings judged

-- the key was judged, and read in the session of this number; the session was opened if it was
-- not there, or was refused
pub record IsGet (s : Setting) (number : ℕ) (key : List ℕ) (outcome : Outcome)
    (before after : Seated) : Type 0 where
  pub opens : OpensSession number before after
  pub judged : Result (List ℕ) Fault
  pub judged_is : IsKeyJudged key judged
  pub told : ReadsJudged s.book s.ring s.n s.r (seat_of number after.numbers) key outcome
      after.refused before.tellings after.tellings judged

-- the sessions on these seats
abbrev pub seated : Seats → List SessionPart → Seated
seated seats tellings =
    record { numbers = seats.numbers.items; tellings = tellings; refused = seats.refused }

-- each of the sessions has a number on these seats
abbrev pub IsTogether : Seats → List SessionPart → Type 0
IsTogether seats tellings = length seats.numbers.items ≡ length tellings

-- no session was opened, and none was told anything
abbrev pub IsApart : Seated → Seated → Type 0
IsApart before after = (after.numbers ≡ before.numbers) × (after.tellings ≡ before.tellings)

-- what a put did, where it names its own number of homes or goes by this one
abbrev pub DoesPut : Setting → ℕ → WriteParts → List ℕ → Outcome → Seated → Seated → Type 0
DoesPut s w write value outcome before after =
    (judged : Result Given Fault) × IsPutJudged write.key write.context value judged
    × IsWrite s write.session (given_or w write.w) word.Put judged outcome before after

-- what a delete did
abbrev pub DoesDelete : Setting → ℕ → WriteParts → Outcome → Seated → Seated → Type 0
DoesDelete s w write outcome before after =
    (judged : Result Given Fault) × IsDeleteJudged write.key write.context judged
    × IsWrite s write.session (given_or w write.w) word.Delete judged outcome before after

-- what a command did to a node, which is down where the ring has no such node
abbrev pub DoesAt : Setting → Word → ℕ → Outcome → Seated → Seated → Type 0
DoesAt s word node outcome before after =
    (IsNodeOf s.ring node → outcome ≡ Done word)
    × (¬ (IsNodeOf s.ring node) → outcome ≡ Refused word Down None) × IsApart before after

-- what a command did, and what came of it
abbrev pub Does : Setting → ℕ → CommandParts → Outcome → Seated → Seated → Type 0
Does s w (puts write value) outcome before after = DoesPut s w write value outcome before after
Does s w (deletes write) outcome before after = DoesDelete s w write outcome before after
Does s w (gets key session) outcome before after = IsGet s session key outcome before after
Does s w (downs node) outcome before after = DoesAt s word.Down node outcome before after
Does s w (ups node) outcome before after = DoesAt s word.Up node outcome before after
Does s w (sets_mode node mode) outcome before after =
    DoesAt s word.SetMode node outcome before after
Does s w (delivers node) outcome before after =
    IsDeliveryTold s.ring node outcome × IsApart before after
Does s w (hands_off node) outcome before after =
    IsPassTold s.book s.ring node outcome × IsApart before after
Does s w (shows node key) outcome before after =
    IsShowTold s.ring node key outcome × IsApart before after
