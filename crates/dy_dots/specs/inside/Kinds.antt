-- How runs lie to one another.
use Rattle.std.specs.Prelude.{ℕ, ◌≡◌, ◌+◌, ◌-◌, ◌<◌, ◌≤◌, ◌⊎◌, max, ◌==◌, ◌&&◌, ◌||◌}
use Rattle.std.specs.Prelude.{nat_le, Bool, true, List, [], ◌∷◌, length, slice_index_or}
use Rattle.dy_dots.specs.Runs.{in_run, in_runs, StartsFrom, AreApart}
use Rattle.dy_dots.specs.declared.dots.Dot.{Dot}
use Rattle.dy_dots.specs.declared.runs.Run.{Run}

-- the run with what the other adds at its end
abbrev pub joined : Run → Run → Run
joined a b = record { node = a.node; first = a.first; last = max a.last b.last }

-- whether a has each dot of b
abbrev pub covers_run : Run → Run → Bool
covers_run a b = (a.node == b.node) && (nat_le a.first b.first && nat_le b.last a.last)

-- b comes later, with a counter missing between the two
abbrev pub IsBelow : Run → Run → Type 0
IsBelow a b = StartsFrom a.node (a.last + 2) b

-- b comes earlier, or right after a's end at the latest
abbrev pub IsReached : Run → Run → Type 0
IsReached a b = (b.node < a.node) ⊎ ((b.node ≡ a.node) × (b.first ≤ a.last + 1))

-- r starts where the list's first run does, or before
abbrev pub StartsBy : Run → List Run → Type 0
StartsBy r [] = Unit {0}
StartsBy r (x ∷ xs) = StartsFrom r.node r.first x

-- r is taken off the front of one list, and the other starts no earlier
abbrev pub IsNextRun : List Run → List Run → Run → List Run → List Run → Type 0
IsNextRun a b r a_rest b_rest =
    ((a ≡ r ∷ a_rest) × (b ≡ b_rest) × StartsBy r b)
    ⊎ ((b ≡ r ∷ b_rest) × (a ≡ a_rest) × StartsBy r a)

-- the runs before this place are below the run
abbrev pub AreBelow : List Run → ℕ → Run → Type 0
AreBelow rs place r = (k : ℕ) → k < place → IsBelow (slice_index_or rs k r) r

-- the run at this place, where there is one, is reached
abbrev pub IsPlace : List Run → ℕ → Run → Type 0
IsPlace rs place r = place < length rs → IsReached (slice_index_or rs place r) r

-- each dot of the others is one of the runs'
abbrev pub HaveAllOf : List Run → List Run → Type 0
HaveAllOf rs others = (d : Dot) → in_runs others d ≡ true → in_runs rs d ≡ true

-- how many dots the runs have
abbrev pub count_of : List Run → ℕ
count_of [] = 0
count_of (r ∷ rs) = (r.last + 1 - r.first) + count_of rs

-- the runs have the dots of both others
abbrev pub HaveBoth : List Run → List Run → List Run → Type 0
HaveBoth a b new = (d : Dot) → in_runs new d ≡ (in_runs a d || in_runs b d)

-- the new runs are those with a run more
abbrev pub Added : List Run → Run → List Run → Type 0
Added rs s new = AreApart new × ((d : Dot) → in_runs new d ≡ (in_run s d || in_runs rs d))
