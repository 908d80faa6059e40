-- Which cluster a script asks for.
use Rattle.std.specs.Prelude.{◌≡◌, ℕ, Option, Some, None}
use Rattle.dy_dots.specs.declared.dots.TheConstants.{MAX_COUNTER}
use Rattle.dy_book.specs.Limits.{AreLimits, IsQuorum}
use Rattle.dy_book.specs.declared.options.Options.{Options}
use Rattle.dy_book.specs.declared.options.TheConstants.{MAX_STEPS, MAX_VERSIONS}
use Rattle.dy_script.specs.Reading.{ScriptParts}
use Rattle.dy_plans.specs.RingLines.{IsLaidOut}
use Rattle.dy_plans.specs.declared.plans.Plan.{Plan}

-- what is given, or else this
abbrev pub given_or : ℕ → Option ℕ → ℕ
given_or n None = n
given_or n (Some given) = given

-- the numbers and the limits of the script
abbrev pub options_for : ScriptParts → Options
options_for s = record {
  n = s.n;
  r = s.r;
  w = s.w;
  counter_limit = given_or MAX_COUNTER s.limits.counter;
  versions_limit = given_or MAX_VERSIONS s.limits.versions;
  steps_limit = given_or MAX_STEPS s.limits.steps;
}

-- this is the cluster that the script asks for, and nothing refuses it
pub record IsPlanOf (s : ScriptParts) (plan : Plan) : Type 0 where
  pub laid_out : IsLaidOut s.layout plan.ring
  pub options : plan.options ≡ options_for s
  pub limits : AreLimits (options_for s)
  pub quorum : IsQuorum (options_for s) plan.ring.nodes
