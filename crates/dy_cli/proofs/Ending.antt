-- How a job ends by what came of it.
use Rattle.std.proofs.Common.{◌≡◌, ℕ, List, arith, inl, inr, refl, subst, ⊎_elim}
use Rattle.std.specs.Prelude.{◌⊎◌, Option, Ok, Err, Some, IsErrOf}
use Rattle.dy_dots.specs.declared.faults.Fault.{Fault}
use Rattle.dy_dots.specs.declared.faults.Fault.TheVariants.{OutOfMemory}
use Rattle.dy_lines.specs.Refusals.{refusal_text}
use Rattle.dy_lines.specs.Stops.{stopped_text}
use Rattle.dy_lines.specs.declared.stops.Stopped.{Stopped}
use Rattle.dy_lines.specs.declared.stops.Stopped.TheVariants.{Refused, Output}
use Rattle.dy_cli.specs.Ends.{IsEnd, IsEndBy, IsStatusOf, IsTold}
use Rattle.dy_cli.specs.Refusals.{IsCause, IsHaltedBy, IsHaltedFor, Stops}
use Rattle.dy_cli.specs.declared.ends.Ended.{Ended}
use Rattle.dy_jobs.specs.declared.jobs.Job.{Job}
use Rattle.dy_cli.proofs.Halting.{no_refusal, refusal_of}

module _ {T : Type 0} where
  -- nothing refuses what is Ok
  pub done_ends : (job : Job) (given : Option (List ℕ)) (bytes : List ℕ) (x : T) (ended : Ended)
      (out out_after err err_after : Option (List ℕ)) → ended.status ≡ 0 →
      IsHaltedBy {T = T} (Stops job bytes) (Ok x) out out_after →
      IsEnd job given bytes ended out out_after err err_after
  done_ends job given bytes x ended out out_after err err_after zero halts = record {
    failed = λ one. absurd (omega (arith, zero, one));
    refused = λ two. absurd (omega (arith, zero, two));
    stopped = λ f this.
        ⊎_elim (λ same. no_refusal (Ok x) f refl same)
        (λ memory. no_refusal (Ok x) OutOfMemory refl memory)
        (halts f this).0;
  }

  -- what stopped by a refusal ends by that one
  ends_by : (e f : Fault) (ended : Ended) (err err_after : Option (List ℕ)) →
      IsEndBy e ended err err_after →
      IsErrOf {T = T} {E = Stopped} (Err (Refused e)) (Refused f) →
      IsEndBy f ended err err_after
  ends_by e f ended err err_after ends same =
      subst (λ (x : Fault). IsEndBy x ended err err_after) (refusal_of e f same) ends

  -- a refusal ends with its status and its line, and a lost output tells that none came
  pub stopped_ends : (job : Job) (given : Option (List ℕ)) (bytes : List ℕ) (stopped : Stopped)
      (ended : Ended) (out out_after err err_after : Option (List ℕ)) →
      IsHaltedBy {T = T} (Stops job bytes) (Err stopped) out out_after →
      IsHaltedFor {T = T} (IsCause job given bytes out out_after) (Err stopped) →
      IsStatusOf stopped ended.status →
      ((text : List ℕ) → stopped_text stopped ≡ Some text → IsTold ended text err err_after) →
      IsEnd job given bytes ended out out_after err err_after
  stopped_ends job given bytes (Refused e) ended out out_after err err_after halts only status told =
      let line = told (refusal_text e) refl in
      record {
        failed = λ one.
            ⊎_elim (λ fails. inl (e, fails.0, line))
            (λ refuses. absurd (omega (arith, one, refuses.1)))
            status;
        refused = λ two.
            ⊎_elim (λ fails. absurd (omega (arith, two, fails.1)))
            (λ refuses. (
              e,
              ⊎_elim (λ cause. cause) (λ fails. absurd (refuses.0 fails)) (only e refl),
              refuses.0,
              line,
            ))
            status;
        stopped = λ f this. (
          ⊎_elim (λ same. inl (ends_by e f ended err err_after (status, line) same))
              (λ memory. inr (ends_by e OutOfMemory ended err err_after (status, line) memory))
              (halts f this).0,
          (halts f this).1,
        );
      }
  stopped_ends job given bytes (Output e) ended out out_after err err_after halts only status told = record {
    failed = λ one. inr (λ f this.
        ⊎_elim (λ same. no_refusal {T = T} (Err (Output e)) f refl same)
        (λ memory. no_refusal {T = T} (Err (Output e)) OutOfMemory refl memory)
        (halts f this).0);
    refused = λ two. absurd (omega (arith, status, two));
    stopped = λ f this.
        ⊎_elim (λ same. no_refusal {T = T} (Err (Output e)) f refl same)
        (λ memory. no_refusal {T = T} (Err (Output e)) OutOfMemory refl memory)
        (halts f this).0;
  }
