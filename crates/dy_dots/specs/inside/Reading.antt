-- How bytes are read as runs, and which runs are let through.
use Rattle.std.specs.Prelude.{◌≡◌, ◌⊎◌, ℕ, ◌+◌, ◌-◌, ◌*◌, ◌==◌, ◌&&◌, ◌||◌, nat_lt, nat_le}
use Rattle.std.specs.Prelude.{Bool, true, List, [], ◌∷◌, ◌++◌, if◌then◌else◌, Option, Some, None}
use Rattle.dy_dots.specs.declared.faults.Fault.{Fault}
use Rattle.dy_dots.specs.declared.faults.Fault.TheVariants.{OutOfMemory, ContextSyntax}
use Rattle.dy_dots.specs.declared.runs.Run.{Run}
use Rattle.dy_dots.specs.declared.nodes.TheConstants.{MAX_NODES}
use Rattle.dy_dots.specs.declared.dots.TheConstants.{MAX_COUNTER}

-- the run that ends at this number
abbrev pub run_to : ℕ → Option ℕ → ℕ → Run
run_to node None last = record { node = node; first = last; last = last }
run_to node (Some first) last = record { node = node; first = first; last = last }

-- the number with a digit more
abbrev pub longer : ℕ → ℕ → ℕ
longer number b = number * 10 + (b - 48)

-- the runs that bytes name, however they spell them: from the runs so far, the node, the first
-- counter and the number
abbrev pub read_from : List Run → ℕ → Option ℕ → ℕ → List ℕ → Option (List Run)
read_from rs node first number [] = Some (rs ++ run_to node first number ∷ [])
read_from rs node first number (b ∷ bs) =
    if nat_le 48 b && nat_le b 57
    then (if nat_le number MAX_COUNTER then read_from rs node first (longer number b) bs else None)
    else if b == 58
    then (if nat_lt number MAX_NODES then read_from rs number None 0 bs else None)
    else if b == 45
    then read_from rs node (Some number) 0 bs
    else if (b == 44) || (b == 32)
    then read_from (rs ++ run_to node first number ∷ []) node None 0 bs
    else read_from rs node first number bs

-- the runs that bytes name
abbrev pub read_runs : List ℕ → Option (List Run)
read_runs bs = read_from [] 0 None 0 bs

-- the refusal of bytes as runs: memory ran out, or they name none
abbrev pub IsUnread : List ℕ → Fault → Type 0
IsUnread bytes fault = (fault ≡ OutOfMemory) ⊎ ((fault ≡ ContextSyntax) × (read_runs bytes ≡ None))

-- whether a run may come next: from this node and counter on, and with this much room
abbrev pub allowed : ℕ → ℕ → ℕ → Run → Bool
allowed node least room r =
    nat_lt r.node MAX_NODES
    && ((nat_lt node r.node || ((node == r.node) && nat_le least r.first))
    && (nat_le 1 r.first && (nat_le r.first r.last
    && (nat_le r.last MAX_COUNTER && nat_lt (r.last - r.first) room))))

-- whether each of the runs may come after the one before
abbrev pub all_allowed : ℕ → ℕ → ℕ → List Run → Bool
all_allowed node least room [] = true
all_allowed node least room (r ∷ rs) =
    allowed node least room r
    && all_allowed r.node (r.last + 2) (room - (r.last - r.first + 1)) rs
