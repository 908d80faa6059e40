-- The cluster, its steps and its gets, one behind the other, where steps are wanted; the index has
-- the session of each step.
use Rattle.std.proofs.Common.{◌≡◌, ◌∙◌, Bool, ℕ, List, ap, subst, sym, arith}
use Rattle.std.proofs.KnownBytes.{Appends-trans}
use Rattle.std.specs.Io.KnownBytes.{Appends}
use Rattle.std.specs.List.{enumerate_from, flat_map}
use Rattle.dy_shares.specs.declared.kept_steps.KeptStep.{KeptStep}
use Rattle.dy_shares.specs.declared.step_numbers.StepNumbers.{StepNumbers}
use Rattle.dy_book.specs.declared.options.Options.{Options}
use Rattle.dy_lines.specs.Clusters.{cluster_lines}
use Rattle.dy_lines.specs.Sessions.{place_by, session_told}
use Rattle.dy_lines.specs.Steps.{step_text}
use Rattle.dy_lines.specs.Texts.{line}
use Rattle.dy_lines.specs.Tellings.{AreToldBy}
use Rattle.dy_storm.specs.Traces.{all_gets, step_line, step_lines, trace_lines}
use Rattle.dy_storm.proofs.Tracing.{same_lines}
use Rattle.dy_storm.proofs.traces.write_trace.Goals as goal

pub returns-clause-written : goal.returns-clause-written
returns-clause-written g c tellings are =
    let contents = g.O.Write.contents in
    let audit = c.args.audit.now in
    let told_is = c.as_slice-told.ensures.value in
    let steps = c.kept-steps.result.now in
    let place = place_by c.in_ok-sessions.sessions in
    let first = contents c.args.out.now in
    let second = contents c.write_cluster.new.out in
    let third = contents c.write_steps.new.out in
    let last = contents c.write_told.new.out in
    let cluster : Appends first second (cluster_lines 3 2 2 c.args.tokens.now) =
    subst (λ (o : Options). Appends first second (cluster_lines o.n o.r o.w c.args.tokens.now))
    c.options-options.ensures c.in_ok-write_cluster.ensures.written in
    let same : flat_map (step_line place) (enumerate_from 1 steps)
    ≡ flat_map (step_line (session_told audit.told.items)) (enumerate_from 1 steps) =
    same_lines (step_line place) (step_line (session_told audit.told.items)) 1 steps
    (λ (number : ℕ) (k : KeptStep) below.
    ap (λ (s : ℕ). line (step_text number s k))
    (c.in_ok-sessions.ensures.ok.within number (omega (arith, below))
    ∙ ap (λ (t : List StepNumbers). session_told t number) told_is)) in
    let logged : Appends second third (step_lines audit) =
    subst (λ (ks : List KeptStep). Appends second third
    (flat_map (step_line (session_told audit.told.items)) (enumerate_from 1 ks)))
    c.kept-steps.ensures.trail (subst (Appends second third) same c.in_ok-write_steps.ensures) in
    let told : Appends third last (all_gets tellings) =
    c.in_ok-write_told.ensures tellings
    (subst (λ (t : List StepNumbers). AreToldBy 2 t tellings) (sym told_is) are) in
    let all = Appends-trans first third last _ _
    (Appends-trans first second third _ _ cluster logged) told in
    subst (λ (is_wanted : Bool). Appends first last
    (trace_lines is_wanted c.args.tokens.now audit (all_gets tellings)))
    (sym c.if-not-is_wanted.false) all
