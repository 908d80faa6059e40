-- How a row is merged into what is held, once the merge was made ready.
use Rattle.std.specs.Prelude.{◌≡◌, ℕ, ◌<◌, List, [], Bool, true, false, length, set}
use Rattle.std.specs.Prelude.{slice_index_or}
use Rattle.dy_siblings.specs.Siblings.{Siblings, IsSameRow, merge}
use Rattle.dy_core.specs.Orders.{holding_cmp, put}
use Rattle.dy_core.specs.inside.Meanings.{row_in}
use Rattle.dy_core.specs.declared.holdings.Holding.{Holding}
use Rattle.dy_index.specs.Lists.{held_alone, taken_out}
use Rattle.dy_index.specs.declared.merges.Merging.{Merging}
use Rattle.dy_index.specs.declared.merges.Merging.TheVariants.{Alone, Beside, Over}
use Rattle.dy_index.specs.declared.merges.Placing.{Placing}
use Rattle.dy_index.specs.declared.merges.Placing.TheVariants.{At, First}

-- what is held once the merge stands
abbrev pub merged_by : Merging → Holding → Holding
merged_by (Alone v) h = held_alone v h
merged_by (Beside d) h = h
merged_by (Over c) h = c

-- what is held once the merge is taken back
abbrev pub taken_back : Merging → Holding → Holding
taken_back (Alone v) h = h
taken_back (Beside d) h = taken_out d h
taken_back (Over c) h = h

-- a version that is to stand alone is of the key
abbrev pub FitsIn : Merging → Holding → Type 0
FitsIn (Alone v) h = v.key ≡ h.row.key
FitsIn (Beside d) h = Unit {0}
FitsIn (Over c) h = Unit {0}

-- nothing that is held
abbrev pub nothing : Holding
nothing = record { holder = 0; home = 0; row = record { key = []; versions = [] } }

-- the list once the merge stands
abbrev pub placed_by : Placing → List Holding → List Holding
placed_by (At at m) hs = set hs at (merged_by m (slice_index_or hs at nothing))
placed_by (First c) hs = put holding_cmp hs c

-- the list once the merge is taken back
abbrev pub taken_from : Placing → List Holding → List Holding
taken_from (At at m) hs = set hs at (taken_back m (slice_index_or hs at nothing))
taken_from (First c) hs = hs

-- its place is in the list, and fits
abbrev pub FitsAt : Placing → List Holding → Type 0
FitsAt (At at m) hs = (at < length hs) × FitsIn m (slice_index_or hs at nothing)
FitsAt (First c) hs = Unit {0}

-- whether nothing is held at its place yet
abbrev pub is_first : Placing → Bool
is_first (At at m) = false
is_first (First c) = true

-- the merge with the row is put in its place in the list
pub record IsHeldAt (hs : List Holding) (holder home : ℕ) (row : Siblings) (new : List Holding)
    : Type 0 where
  pub held : Holding
  pub holder_is : held.holder ≡ holder
  pub home_is : held.home ≡ home
  pub key_is : held.row.key ≡ row.key
  pub merged : IsSameRow held.row.versions (merge (row_in hs holder home row.key) row.versions)
  pub placed : new ≡ put holding_cmp hs held
