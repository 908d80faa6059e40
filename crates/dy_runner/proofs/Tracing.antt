-- What is printed of steps and of the commands above them, one behind the other.
use Rattle.std.proofs.Common.{◌≡◌, ◌∙◌, ◌+◌, ◌<◌, ◌≤◌, ◌++◌, ◌∷◌, [], ℕ, List, Option}
use Rattle.std.proofs.Common.{length, map, take, drop, slice_index_or, refl, sym, ap, subst, arith}
use Rattle.std.proofs.Common.{append_assoc, append-nil, length-append, length-drop}
use Rattle.std.proofs.KnownBytes.{Appends-nil, Appends-trans}
use Rattle.std.proofs.Math.Seq.{drop-length}
use Rattle.std.proofs.lemmas.Grind.{flat_map-append}
use Rattle.std.proofs.lemmas.List.{length-map, length-take-le, map-append, take_more}
use Rattle.std.proofs.lemmas.List.Folds.{drop_split}
use Rattle.std.specs.Io.KnownBytes.{Appends}
use Rattle.std.specs.List.{slice_range}
use Rattle.dy_lines.specs.declared.outcomes.Outcome.{Outcome}
use Rattle.dy_runner.specs.Runs.{outcomes_in}
use Rattle.dy_lines.specs.StepLines.{StepSessions, step_lines}
use Rattle.dy_runner.specs.Traces.{AreTraced, Traced, command_lines, steps_in, traced_lines}
use Rattle.dy_runner.specs.declared.recordings.Played.{Played}
use Rattle.dy_shares.specs.declared.kept_steps.KeptStep.{KeptStep}
use Rattle.dy_shares.specs.declared.step_numbers.StepNumbers.{StepNumbers}

commands_at : (s : StepSessions) (t : Traced) (m n i j : ℕ) → m ≡ n → i ≡ j →
    command_lines s m i t ≡ command_lines s n j t
commands_at s t m n i j number step p = command_lines s (number p) (step p) t

-- one more command stands behind the others
traced_lines-last : (s : StepSessions) (number step : ℕ) (ts : List Traced) (t : Traced) →
    traced_lines s number step (ts ++ t ∷ [])
    ≡ traced_lines s number step ts
    ++ command_lines s (number + length ts) (step + length (steps_in ts)) t
traced_lines-last s number step [] t =
    append-nil (command_lines s number step t) ∙ commands_at s t _ _ _ _ (omega arith) (omega arith)
traced_lines-last s number step (x ∷ xs) t =
    let first = command_lines s number step x in
    let rest = traced_lines s (number + 1) (step + length x.steps) xs in
    ap (λ l. first ++ l) (traced_lines-last s (number + 1) (step + length x.steps) xs t)
    ∙ sym (append_assoc first rest _)
    ∙ ap (λ l. first ++ rest ++ l) (commands_at s t _ _ _ _ (omega arith)
    (omega (arith, length-append x.steps (steps_in xs))))

-- of these commands so many are written, with the steps before this place
pub record TracesSoFar (s : StepSessions) (plays : List Played) (index at : ℕ)
    (log : List KeptStep) (first now : Option (List ℕ)) : Type 0 where
  pub traced : List Traced
  pub outcomes_are : map (λ t. t.outcome) traced ≡ outcomes_in (take index plays)
  pub steps_are : steps_in traced ++ drop at log ≡ log
  pub wrote : Appends first now (traced_lines s 1 1 traced)

-- none is written yet
pub traces_none : (s : StepSessions) (plays : List Played) (log : List KeptStep)
    (now : Option (List ℕ)) → TracesSoFar s plays 0 0 log now now
traces_none s plays log now = record {
  traced = [];
  outcomes_are = refl;
  steps_are = refl;
  wrote = Appends-nil now;
}

-- their steps are as many as stand before this place
steps_before : (ts : List Traced) (at : ℕ) (log : List KeptStep) → at ≤ length log →
    steps_in ts ++ drop at log ≡ log → length (steps_in ts) ≡ at
steps_before ts at log within all =
    let count = sym (length-append (steps_in ts) (drop at log)) ∙ ap length all in
    omega (arith, count, length-drop at log, within)

-- one more is written behind them, with its steps
pub traces_next : (s : StepSessions) (plays : List Played) (index at end : ℕ)
    (log : List KeptStep) (play : Played) (first now next : Option (List ℕ)) →
    index < length plays → play ≡ slice_index_or plays index play → at ≤ end → end ≤ length log →
    TracesSoFar s plays index at log first now →
    Appends now next (command_lines s (index + 1) (at + 1)
    (record { outcome = play.outcome; steps = slice_range log at end })) →
    TracesSoFar s plays (index + 1) end log first next
traces_next s plays index at end log play first now next within here rises last before one =
    let part = slice_range log at end in
    let t : Traced = record { outcome = play.outcome; steps = part } in
    let ts = before.traced in
    let more = take_more plays index play within
    ∙ ap (λ x. take index plays ++ x ∷ []) (sym here) in
    let count : length ts ≡ index =
    sym (length-map ts (λ t. t.outcome)) ∙ ap length before.outcomes_are
    ∙ length-map (take index plays) (λ p. p.outcome)
    ∙ length-take-le index plays (omega (arith, within)) in
    let made = steps_before ts at log (omega (arith, rises, last)) before.steps_are in
    let text = traced_lines-last s 1 1 ts t
    ∙ ap (λ l. traced_lines s 1 1 ts ++ l) (commands_at s t _ (index + 1) _ (at + 1)
    (omega (arith, count)) (omega (arith, made))) in
    record {
      traced = ts ++ t ∷ [];
      outcomes_are = map-append (λ t. t.outcome) ts (t ∷ [])
          ∙ ap (λ l. l ++ play.outcome ∷ []) before.outcomes_are
          ∙ sym (map-append (λ p. p.outcome) (take index plays) (play ∷ []))
          ∙ ap outcomes_in (sym more);
      steps_are = ap (λ l. l ++ drop end log) (flat_map-append (λ t. t.steps) ts (t ∷ [])
          ∙ ap (λ l. steps_in ts ++ l) (append-nil part))
          ∙ append_assoc (steps_in ts) part (drop end log)
          ∙ ap (λ l. steps_in ts ++ l) (sym (drop_split log at end rises))
          ∙ before.steps_are;
      wrote = subst (Appends first next) (sym text) (Appends-trans first now next _ _
          before.wrote one);
    }

-- all are written, and the steps that are left behind them
pub traces_all : (s : StepSessions) (plays : List Played) (index at : ℕ)
    (log : List KeptStep) (first now last : Option (List ℕ)) → take index plays ≡ plays →
    at ≤ length log → TracesSoFar s plays index at log first now →
    Appends now last (step_lines s [] (at + 1) (slice_range log at (length log))) →
    (wrote : List ℕ) × AreTraced s (outcomes_in plays) log wrote × Appends first last wrote
traces_all s plays index at log first now last all within before steps =
    let ts = before.traced in
    let rest = sym (drop_split log at (length log) within
    ∙ ap (λ l. slice_range log at (length log) ++ l) (drop-length log)
    ∙ append-nil (slice_range log at (length log))) in
    let made = steps_before ts at log within before.steps_are in
    let text : step_lines s [] (at + 1) (slice_range log at (length log))
    ≡ step_lines s [] (length (steps_in ts) + 1) (drop at log) =
    ap (step_lines s [] (at + 1)) rest
    ∙ ap (λ (n : ℕ). step_lines s [] (n + 1) (drop at log)) (sym made) in (
      traced_lines s 1 1 ts ++ step_lines s [] (length (steps_in ts) + 1) (drop at log),
      record {
        traced = ts;
        outcomes_are = before.outcomes_are ∙ ap outcomes_in all;
        rest = drop at log;
        steps_are = before.steps_are;
        wrote_is = refl;
      },
      Appends-trans first now last _ _ before.wrote (subst (Appends now last) text steps),
    )

-- the same of a log and of sessions that are named otherwise
pub traced_as : (ns ms : List ℕ) (ts us : List StepNumbers) (os ps : List Outcome)
    (log kept : List KeptStep) (wrote : List ℕ) → ns ≡ ms → ts ≡ us → os ≡ ps → log ≡ kept →
    AreTraced (record { numbers = ns; told = ts }) os log wrote →
    AreTraced (record { numbers = ms; told = us }) ps kept wrote
traced_as ns ms ts us os ps log kept wrote numbers told outcomes steps traced =
    subst (λ (x : List ℕ). AreTraced (record { numbers = x; told = us }) ps kept wrote) numbers
    (subst (λ (x : List StepNumbers). AreTraced (record { numbers = ns; told = x }) ps kept wrote)
    told
    (subst (λ (x : List Outcome). AreTraced (record { numbers = ns; told = ts }) x kept wrote)
    outcomes
    (subst (λ (x : List KeptStep). AreTraced (record { numbers = ns; told = ts }) os x wrote)
    steps traced)))
