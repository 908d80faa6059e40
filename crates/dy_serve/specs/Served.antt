-- All that `dynamo serve` prints.
use Rattle.std.specs.Prelude.{◌≡◌, ◌+◌, ◌++◌, [], List, ℕ, Bool, length, if◌then◌else◌}
use Rattle.std.specs.declared.marker.Brand.{Brand}
use Rattle.dy_ring.specs.Rings.{Tokens}
use Rattle.dy_book.specs.Limits.{AreLimits, IsQuorum}
use Rattle.dy_cluster.specs.Settings.{setting}
use Rattle.dy_cluster.specs.declared.resting.Closed.{Closed}
use Rattle.dy_lines.specs.Clusters.{cluster_lines}
use Rattle.dy_script.specs.Reading.{ScriptParts, node_count}
use Rattle.dy_plans.specs.Openings.{options_for}
use Rattle.dy_plans.specs.RingLines.{IsLaidOut}
use Rattle.dy_serve.specs.Answers.{Asked, AreAnswered, asked_in, asked_of}
use Rattle.dy_serve.specs.Below.{Standing, none_standing}
use Rattle.dy_serve.specs.Closings.{IsClosing, Service}
use Rattle.dy_serve.specs.InputLines.{AreLinesOf}

-- what is asked: the commands of the script, and then what these lines ask for
abbrev pub asked_of_all : ScriptParts → List (List ℕ) → List Asked
asked_of_all s lines =
    asked_of s.run ++ asked_in (node_count s.layout) (length s.run + 1) lines

-- the service of this script in clusters that it asks for, on this ring
abbrev pub service_of : ScriptParts → Tokens → Bool → Service
service_of s ring with_steps = record {
  setting = setting Brand ring s.n s.r (options_for s);
  script = s;
  with_steps = with_steps;
}

-- with the steps the cluster is told first
abbrev pub first_lines : ScriptParts → Tokens → Bool → List ℕ
first_lines s ring with_steps =
    if with_steps then cluster_lines s.n s.r s.w ring.tokens else []

-- what was written is an answer to each command of the script and to each line of this text, in
-- their order; and behind them is printed how the last cluster was closed
pub record IsServed (s : ScriptParts) (with_steps : Bool) (text wrote : List ℕ) : Type 0 where
  pub ring : Tokens
  pub laid_out : IsLaidOut s.layout ring
  pub limits : AreLimits (options_for s)
  pub quorum : IsQuorum (options_for s) ring.nodes
  pub lines : List (List ℕ)
  pub lines_of : AreLinesOf text lines
  pub stands : Standing
  pub answers : List ℕ
  pub answered : AreAnswered (service_of s ring with_steps) (asked_of_all s lines) 1 none_standing
      stands answers
  pub closed : Closed
  pub closing : List ℕ
  pub closed_so : IsClosing (service_of s ring with_steps) stands closed closing
  pub wrote_is : wrote ≡ first_lines s ring with_steps ++ answers ++ closing
