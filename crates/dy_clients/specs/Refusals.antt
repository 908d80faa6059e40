-- Why a run of clients is refused.
use Rattle.std.specs.Prelude.{◌≡◌, ◌⊎◌}
use Rattle.dy_dots.specs.declared.faults.Fault.{Fault}
use Rattle.dy_dots.specs.declared.faults.Fault.TheVariants.{OutOfMemory, TooMany, SharesMissing}

-- memory was wanting, there were too many sessions, or one was not handed in
abbrev pub IsRunRefusal : Fault → Type 0
IsRunRefusal fault = (fault ≡ OutOfMemory) ⊎ (fault ≡ TooMany) ⊎ (fault ≡ SharesMissing)
