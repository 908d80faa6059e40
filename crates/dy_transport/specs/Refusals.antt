-- Which refusals a try gives: none of them is one that a coordinator makes itself.
use Rattle.std.specs.Prelude.{◌≡◌, ◌⊎◌}
use Rattle.dy_dots.specs.declared.dots.Dot.{Dot}
use Rattle.dy_dots.specs.declared.faults.Fault.{Fault}
use Rattle.dy_dots.specs.declared.faults.Fault.TheVariants.{OutOfMemory, Down, StepsFull}
use Rattle.dy_dots.specs.declared.faults.Fault.TheVariants.{CounterFull, ContextUnknown}
use Rattle.dy_dots.specs.declared.faults.Fault.TheVariants.{VersionsFull}

-- for memory, or past the limit of steps: the refusals of a step that needs nothing else
abbrev pub IsOfStep : Fault → Type 0
IsOfStep f = (f ≡ OutOfMemory) ⊎ (f ≡ StepsFull)

-- of a node that looks, or settles: it is down, or a step is refused
abbrev pub IsOfNode : Fault → Type 0
IsOfNode f = (f ≡ Down) ⊎ IsOfStep f

-- of a node that lists its hints: it is down, or memory is refused
abbrev pub IsOfOffer : Fault → Type 0
IsOfOffer f = (f ≡ Down) ⊎ (f ≡ OutOfMemory)

-- of a node that begins a put: it is down, or a limit is met, or the context names a dot that was
-- not issued
abbrev pub IsOfBegin : Fault → Type 0
IsOfBegin f =
    IsOfNode f ⊎ (f ≡ CounterFull) ⊎ (f ≡ VersionsFull) ⊎ ((d : Dot) × (f ≡ ContextUnknown d))
