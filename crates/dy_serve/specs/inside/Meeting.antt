-- What came of one line.
use Rattle.std.specs.Prelude.{◌≡◌, ◌⊎◌, ◌+◌, ◌++◌, ◌∷◌, [], List, ℕ, true, false, Ok, Err}
use Rattle.dy_dots.specs.declared.faults.Fault.TheVariants.{OutOfMemory}
use Rattle.dy_cluster.specs.Settings.{Setting}
use Rattle.dy_script.specs.Requests.{does, renews, request_parts}
use Rattle.dy_serve.specs.Below.{Standing}
use Rattle.dy_serve.specs.Answers.{Asked, IsDone, IsRefused, asked_by}
use Rattle.dy_serve.specs.InputLines.{is_nothing}
use Rattle.dy_serve.specs.declared.served_clusters.Ways.{Ways}
use Rattle.dy_serve.specs.declared.answering.Answered.{Answered}
use Rattle.dy_serve.specs.declared.answering.LineAsked.{LineAsked}
use Rattle.dy_serve.specs.declared.answering.LineAsked.TheVariants.{Nothing, Wanted, Wrong}

-- of a store with so many nodes the line asks for this; its number is behind this one
abbrev pub AsksSo : ℕ → ℕ → List ℕ → LineAsked → Type 0
AsksSo nodes count line Nothing = is_nothing line ≡ true
AsksSo nodes count line (Wanted number request) =
    (is_nothing line ≡ false) × (number ≡ count + 1)
    × (asked_by nodes (count + 1) line ≡ Ok (request_parts request))
AsksSo nodes count line (Wrong number fault) =
    (is_nothing line ≡ false) × (number ≡ count + 1)
    × ((asked_by nodes (count + 1) line ≡ Err fault) ⊎ (fault ≡ OutOfMemory))

-- what was asked for was done in its cluster, or what is wrong with it was told
abbrev pub IsMetHere : Setting → Ways → Asked → ℕ → Standing → Standing → List ℕ → Type 0
IsMetHere s w (Err fault) number before after text = IsRefused fault number before after text
IsMetHere s w (Ok (does c)) number before after text = IsDone s w.w w.with_steps c number before
    after text
IsMetHere s w (Ok renews) number before after text = ⊥

-- so it was, or memory was wanting to read it
abbrev pub IsAnsweredHere : Setting → Ways → Asked → ℕ → Standing → Standing → List ℕ → Type 0
IsAnsweredHere s w asked number before after text =
    IsMetHere s w asked number before after text
    ⊎ IsRefused OutOfMemory number before after text

-- all that was asked was answered so, one after another, numbered from here
abbrev pub AreAnsweredHere :
    Setting → Ways → List Asked → ℕ → Standing → Standing → List ℕ → Type 0
AreAnsweredHere s w [] number before after text = (after ≡ before) × (text ≡ [])
AreAnsweredHere s w (a ∷ more) number before after text =
    (between : Standing) × (first rest : List ℕ)
    × IsAnsweredHere s w a number before between first
    × AreAnsweredHere s w more (number + 1) between after rest × (text ≡ first ++ rest)

-- nothing was done, and nothing written
abbrev pub IsLeft : Standing → Standing → List ℕ → Type 0
IsLeft before after text = (after ≡ before) × (text ≡ [])

-- a line that asks for nothing is left, and has no number; a renewal is left to the caller; what
-- another asks for was answered
abbrev pub MeetsLine :
    Setting → Ways → ℕ → ℕ → List ℕ → Answered → Standing → Standing → List ℕ → Type 0
MeetsLine s w nodes count line answered before after text =
    ((is_nothing line ≡ true) × (answered.count ≡ count) × (answered.renews ≡ false)
    × IsLeft before after text)
    ⊎ ((is_nothing line ≡ false) × (answered.count ≡ count + 1)
    × (((answered.renews ≡ true) × (asked_by nodes (count + 1) line ≡ Ok renews)
    × IsLeft before after text)
    ⊎ ((answered.renews ≡ false)
    × IsAnsweredHere s w (asked_by nodes (count + 1) line) (count + 1) before after text)))
