-- Why a cluster is not opened.
use Rattle.std.specs.Prelude.{◌≡◌, ◌⊎◌, ℕ}
use Rattle.dy_dots.specs.declared.faults.Fault.{Fault}
use Rattle.dy_dots.specs.declared.faults.Fault.TheVariants.{OutOfMemory, TooMany, BadQuorum}
use Rattle.dy_book.specs.Limits.{AreLimits, IsQuorum}
use Rattle.dy_book.specs.declared.options.Options.{Options}

-- a limit is out of its range, the numbers don't fit so many nodes, or memory was wanting
abbrev pub IsOpenRefusal : Options → ℕ → Fault → Type 0
IsOpenRefusal options nodes fault =
    ((fault ≡ TooMany) × (AreLimits options → ⊥))
    ⊎ ((fault ≡ BadQuorum) × (IsQuorum options nodes → ⊥))
    ⊎ (fault ≡ OutOfMemory)
