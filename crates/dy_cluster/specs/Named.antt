-- The name of a book, and the nodes of its ring.
use Rattle.std.specs.Prelude.{◌≡◌, ◌<◌, ℕ}
use Rattle.logbook.specs.Pages.{Book}
use Rattle.atomic_table.specs.Seated.{TableId}
use Rattle.dy_ring.specs.Rings.{Tokens}
use Rattle.dy_cluster.specs.declared.openings.Opened.{Opened}

-- the book has the name of the log that lies in what was opened, its ring and its numbers
abbrev pub NamesBook : Book → TableId → Tokens → ℕ → ℕ → Opened → Type 0
NamesBook book table ring n r o =
    (o.blank ≡ record { book = book; table = table }) × (o.ring ≡ ring)
    × (o.options.n ≡ n) × (o.options.r ≡ r)

-- the ring has the node of this number
abbrev pub IsNodeOf : Tokens → ℕ → Type 0
IsNodeOf ring node = node < ring.nodes
