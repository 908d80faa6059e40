-- What stands below the line of a command, and what is left at a close.
use Rattle.std.proofs.Common.{◌≡◌, ◌∙◌, ◌+◌, ◌++◌, [], ℕ, List, length}
use Rattle.std.proofs.Common.{drop, refl, sym, ap, subst, arith, length-append}
use Rattle.std.proofs.lemmas.List.{length-map, map-append}
use mathlib.Core.List.{IsPrefix}
use Rattle.dy_core.specs.declared.steps.Step.{Step}
use Rattle.dy_shares.specs.Shares.{SessionPart, steps_of}
use Rattle.dy_shares.specs.Trails.{AreKept}
use Rattle.dy_shares.specs.declared.entries.Entry.{Entry}
use Rattle.dy_shares.specs.declared.kept_steps.KeptStep.{KeptStep}
use Rattle.dy_shares.specs.declared.step_numbers.StepNumbers.{StepNumbers}
use Rattle.dy_book.specs.Audits.{IsHistoryOf}
use Rattle.dy_book.specs.declared.audits.Audit.{Audit}
use Rattle.dy_cluster.specs.Marks.{IsMoved}
use Rattle.dy_cluster.specs.Settings.{Setting}
use Rattle.dy_cluster.specs.declared.resting.Closed.{Closed}
use Rattle.dy_cluster.proofs.Marking.{kept_behind, kept_many, parts_of}
use Rattle.dy_lines.specs.Outcomes.{command_text}
use Rattle.dy_lines.specs.Served.{renewed_text}
use Rattle.dy_lines.specs.Texts.{line}
use Rattle.dy_lines.specs.declared.outcomes.Outcome.{Outcome}
use Rattle.dy_script.specs.Orders.{CommandParts}
use Rattle.dy_commands.specs.Commands.{Does, seated}
use Rattle.dy_commands.specs.Seats.{Seated}
use Rattle.dy_lines.specs.StepLines.{step_lines}
use Rattle.dy_commands.specs.declared.seats.Seats.{Seats}
use Rattle.dy_serve.specs.Answers.{IsCarriedInto, IsDone}
use Rattle.dy_serve.specs.Below.{AreBelow, AreBelowIf, AreNew, Standing, none_standing}
use Rattle.dy_serve.specs.Below.{one_session, session_at, session_in, standing, told_by}
use Rattle.dy_serve.specs.Closings.{AreLeft}
use Rattle.dy_serve.specs.declared.served_clusters.Ways.{Ways}
use Rattle.dy_serve.specs.declared.told.ToldSoFar.{ToldSoFar}
use Rattle.dy_serve.specs.inside.Stretches.{GoesOn}

-- these are the lines of steps behind as many as were read
lines_of : (session other from to : ℕ) (told told' : StepNumbers) (steps kept : List KeptStep) →
    other ≡ session → told' ≡ told → from ≡ to → steps ≡ kept →
    step_lines (one_session other told') [] (from + 1) steps
    ≡ step_lines (one_session session told) [] (to + 1) kept
lines_of session other from to told told' steps kept same_session same_told same_number same =
    ap (λ (n : ℕ). step_lines (one_session n told') [] (from + 1) steps) same_session
    ∙ ap (λ (t : StepNumbers). step_lines (one_session session t) [] (from + 1) steps) same_told
    ∙ ap (λ (n : ℕ). step_lines (one_session session told) [] (n + 1) steps) same_number
    ∙ ap (step_lines (one_session session told) [] (to + 1)) same

-- as many steps as entries were read
steps_read : (log : List Entry) → length (steps_of log) ≡ length log
steps_read log = length-map log (λ e. e.step)

-- the steps behind a mark are as many as it moved by
pub moved_by : (old now : List Entry) (kept : List KeptStep) → IsMoved old now kept →
    length now ≡ length old + length kept
moved_by old now kept moved =
    omega (
      arith,
      ap length moved.after_is ∙ length-append old moved.added,
      kept_many kept (steps_of moved.added) moved.are_kept,
      steps_read moved.added,
    )

-- the lines of what the mark moved behind stand below the command
pub below_so : (so_far : ToldSoFar) (session other before from : ℕ) (after : Seated)
    (old now : List Entry) (told told' : StepNumbers) (kept steps : List KeptStep) →
    AreNew so_far (session_at session after) told → IsMoved old now kept →
    before ≡ length old → from ≡ before → steps ≡ kept → other ≡ session → told' ≡ told →
    AreBelow so_far (steps_of old) session (record { sessions = after; read = steps_of now })
    (step_lines (one_session other told') [] (from + 1) steps)
below_so so_far session other before from after old now told told' kept steps new moved behind
    same_from same same_session same_told = record {
      told = told;
      told_are = new;
      kept = kept;
      added = steps_of moved.added;
      are_kept = moved.are_kept;
      read_is = ap steps_of moved.after_is ∙ map-append (λ e. e.step) old moved.added;
      text_is = lines_of session other from (length (steps_of old)) told told' steps kept
          same_session
          same_told (same_from ∙ behind ∙ sym (steps_read old)) same;
    }

-- the command was done, and its steps stand below its line
pub done_so : (s : Setting) (v w : Ways) (c : CommandParts) (number session : ℕ)
    (outcome : Outcome) (so_far : ToldSoFar) (first between last : Seats)
    (old new : List SessionPart) (were marked log : List Entry) (below : List ℕ) →
    session ≡ session_in c → so_far ≡ told_by (session_at session (seated first old)) →
    Does s v.w c outcome (seated first old) (seated between new) → last ≡ between → w ≡ v →
    marked ≡ were →
    AreBelowIf w.with_steps so_far (steps_of marked) session (standing last new log) below →
    IsDone s v.w v.with_steps c number (standing first old were) (standing last new log)
    (line (command_text number outcome) ++ below)
done_so s v w c number session outcome so_far first between last old new were marked log below
    same_session same_told done same_seats same_ways same_mark here =
    let after = standing last new log in
    let told : so_far ≡ told_by (session_at (session_in c) (seated first old)) =
    same_told ∙ ap (λ (n : ℕ). told_by (session_at n (seated first old))) same_session in
    let in_session : AreBelowIf w.with_steps so_far (steps_of marked) (session_in c) after below =
    subst (λ (n : ℕ). AreBelowIf w.with_steps so_far (steps_of marked) n after below) same_session
    here in
    let from_there : AreBelowIf w.with_steps so_far (steps_of were) (session_in c) after below =
    subst (λ (l : List Entry). AreBelowIf w.with_steps so_far (steps_of l) (session_in c) after
    below) same_mark in_session in
    let in_these : AreBelowIf v.with_steps so_far (steps_of were) (session_in c) after below =
    subst (λ (x : Ways). AreBelowIf x.with_steps so_far (steps_of were) (session_in c) after below)
    same_ways from_there in (
      outcome,
      subst (λ (x : Seats). Does s v.w c outcome (seated first old) (seated x new)) (sym same_seats)
          done,
      below,
      subst (λ (t : ToldSoFar). AreBelowIf v.with_steps t (steps_of were) (session_in c) after
          below) told in_these,
      refl,
    )

-- what was present in the closed cluster was put, and its steps stand below the line
pub goes_so : (s : Setting) (v w : Ways) (closed : Closed) (number carried : ℕ)
    (first between last : Seats) (old new : List SessionPart) (were marked log : List Entry)
    (below : List ℕ) → standing first old were ≡ none_standing →
    IsCarriedInto s closed (seated between new) carried → last ≡ between → w ≡ v →
    marked ≡ were →
    AreBelowIf w.with_steps (record { acks = 0; fetches = 0 }) (steps_of marked) 0
    (standing last new log) below →
    GoesOn s v.with_steps closed number (standing last new log) number
    (line (renewed_text number carried) ++ below)
goes_so s v w closed number carried first between last old new were marked log below none is_carried
    same_seats same_ways same_mark here =
    let so_far : ToldSoFar = record { acks = 0; fetches = 0 } in
    let after = standing last new log in
    let none_read : steps_of marked ≡ [] =
    ap steps_of same_mark ∙ ap (λ (x : Standing). x.read) none in
    let in_these : AreBelowIf v.with_steps so_far (steps_of marked) 0 after below =
    subst (λ (x : Ways). AreBelowIf x.with_steps so_far (steps_of marked) 0 after below) same_ways
    here in
    record {
      carried = carried;
      is_carried = subst (λ (x : Seats). IsCarriedInto s closed (seated x new) carried)
          (sym same_seats) is_carried;
      count_is = refl;
      below = below;
      is_below = subst (λ (l : List Step). AreBelowIf v.with_steps so_far l 0 after below) none_read
          in_these;
      text_is = refl;
    }

-- the lines of what stands behind what was read are left
pub left_so : (audit : Audit) (read log : List Entry) (trail steps : List KeptStep)
    (other before from : ℕ) (told told' : StepNumbers) (begins : IsPrefix read log) →
    IsHistoryOf audit.history (steps_of log) → AreKept trail (steps_of log) →
    before ≡ length read → from ≡ before → steps ≡ drop before trail → other ≡ 0 →
    told' ≡ told → told.acks.items ≡ [] → told.fetches.items ≡ [] →
    AreLeft (steps_of read) audit (step_lines (one_session other told') [] (from + 1) steps)
left_so audit read log trail steps other before from told told' begins history all behind same_from
    same same_session same_told no_acks no_fetches = record {
      added = steps_of begins.0;
      history = subst (IsHistoryOf audit.history) (parts_of read log begins) history;
      kept = drop (length read) trail;
      are_kept = kept_behind trail read log begins all;
      told = told;
      no_acks = no_acks;
      no_fetches = no_fetches;
      text_is = lines_of 0 other from (length (steps_of read)) told told' steps
          (drop (length read) trail) same_session same_told
          (same_from ∙ behind ∙ sym (steps_read read))
          (same ∙ ap (λ (n : ℕ). drop n trail) behind);
    }
