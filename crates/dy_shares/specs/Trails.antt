-- Trails: how each step of a log is kept.
use Rattle.std.specs.Prelude.{◌≡◌, ℕ, List, [], ◌∷◌}
use Rattle.dy_dots.specs.Dots.{AreDots, DotSet}
use Rattle.dy_dots.specs.Runs.{AreRunsOf}
use Rattle.dy_dots.specs.declared.runs.Run.{Run}
use Rattle.dy_siblings.specs.Siblings.{Siblings, IsSiblingSet, own_dots}
use Rattle.dy_core.specs.declared.steps.Step.{Step}
use Rattle.dy_core.specs.declared.steps.Step.TheVariants.{Issue, Hold, Release, Fetch, Ack}
use Rattle.dy_shares.specs.declared.kept_steps.KeptStep.{KeptStep}
use Rattle.dy_shares.specs.declared.kept_steps.KeptStep.TheVariants.{Issued, Held, HeldRuns}
use Rattle.dy_shares.specs.declared.kept_steps.KeptStep.TheVariants.{Released, Fetched, Acked}

-- the row is of this key, and its versions have just these dots
pub record HasDots (row : Siblings) (key : List ℕ) (dots : DotSet) : Type 0 where
  pub key_is : row.key ≡ key
  pub dots_are : own_dots row.versions ≡ dots
  pub siblings : IsSiblingSet row.key row.versions

-- the same, where these are the runs of the dots
pub record HasRuns (row : Siblings) (key : List ℕ) (runs : List Run) : Type 0 where
  pub dots : DotSet
  pub has : HasDots row key dots
  pub runs_of : AreRunsOf runs dots
  pub are_dots : AreDots dots

-- what is kept of a step says which step it is; of a row, which dots it has
abbrev pub Keeps : KeptStep → Step → Type 0
Keeps (Issued v) s = s ≡ Issue v.dot.node v.key v.past v.value
Keeps (Held p run key) s = (row : Siblings) × (s ≡ Hold p row) × HasRuns row key (run ∷ [])
Keeps (HeldRuns p key dots) s =
    (row : Siblings) × (s ≡ Hold p row) × HasDots row key dots.value
Keeps (Released p d key) s = s ≡ Release p key d
Keeps (Fetched p key) s = s ≡ Fetch p key
Keeps (Acked w d key) s = s ≡ Ack key d w

-- a trail keeps these steps, one after another
abbrev pub AreKept : List KeptStep → List Step → Type 0
AreKept [] [] = Unit {0}
AreKept [] (s ∷ ss) = ⊥
AreKept (k ∷ ks) [] = ⊥
AreKept (k ∷ ks) (s ∷ ss) = Keeps k s × AreKept ks ss
