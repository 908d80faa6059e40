-- What a node keeps: its own rows, those for other homes, and the counters that it has used.
use Rattle.std.specs.Prelude.{◌≡◌, ℕ, zero, suc, ◌==◌, ◌++◌, Bool, false, List, [], ◌∷◌, Option}
use Rattle.std.specs.Prelude.{Some, None, if◌then◌else◌, refl}
use Rattle.std.specs.Coded.{Coded, code_by, coded×, coded_ℕ}
use Rattle.std.specs.FinMap as maps
use Rattle.dy_dots.specs.declared.dots.Dot.{Dot}
use Rattle.dy_dots.specs.declared.nodes.TheConstants.{MAX_NODES}
use Rattle.dy_siblings.specs.Siblings.{Siblings, IsSameRow, has_dot}
use Rattle.dy_siblings.specs.declared.versions.Version.{Version}
use Rattle.dy_node_store.specs.Rows.{Rows, rows_code, versions_of, with_versions}
use Rattle.dy_node_store.specs.Counters.{Counters, counters_code, greatest_used}
use Rattle.dy_hint_store.specs.Hints.{Hints, hints_code, versions_for, with_versions_for}
use Rattle.dy_core.specs.Worlds.{World, empty_world, row_at}
use Rattle.dy_shares.specs.Shares.{NodePart, shown_from, shown_row, shows_counter}

-- the rows that a node keeps: its own, and those for other homes
pub record Rooms : Type 0 where
  pub node : ℕ
  pub rows : Rows
  pub hints : Hints

-- the rows of a node as plain data
abbrev pub rooms_code : Coded Rooms
rooms_code =
    code_by (ℕ × (Rows × Hints)) (coded× coded_ℕ (coded× rows_code hints_code))
    (λ r. (r.node, (r.rows, r.hints)))
    (λ p. record { node = p.0; rows = p.1.0; hints = p.1.1 }) (λ _. refl)

-- what a node keeps: rows, and the greatest counter that it has used of each key
pub record Stored : Type 0 where
  pub rooms : Rooms
  pub counters : Counters

-- what a node keeps as plain data
abbrev pub stored_code : Coded Stored
stored_code =
    code_by (Rooms × Counters) (coded× rooms_code counters_code)
    (λ s. (s.rooms, s.counters)) (λ p. record { rooms = p.0; counters = p.1 }) (λ _. refl)

-- nothing is kept
abbrev pub empty_rooms : ℕ → Rooms
empty_rooms node = record { node = node; rows = maps.empty; hints = maps.empty }

-- the versions that are kept of a key for a home: the node's own, or those of a hint
abbrev pub versions_at : Rooms → ℕ → List ℕ → List Version
versions_at r home key =
    if home == r.node then versions_of r.rows key else versions_for r.hints home key

-- whether a dot stands in the row that is kept of a key for another home
abbrev pub stands : Rooms → ℕ → List ℕ → Dot → Bool
stands r home key d = if home == r.node then false else has_dot (versions_for r.hints home key) d

-- with these versions in the place of those that are kept of the key for the home
abbrev pub with_row : Rooms → ℕ → List ℕ → List Version → Rooms
with_row r home key vs =
    if home == r.node
    then record r { rows = with_versions r.rows key vs }
    else record r { hints = with_versions_for r.hints home key vs }

-- what is kept is what the world holds at the node: each version is the one that was made with its
-- dot, and each counter the last that was used
pub record Matches (w : World) (s : Stored) : Type 0 where
  pub rows_are : (home : ℕ) (key : List ℕ) →
      IsSameRow (versions_at s.rooms home key) (row_at w s.rooms.node home key)
  pub counters_are : (key : List ℕ) →
      greatest_used s.counters key ≡ w.counters s.rooms.node key

-- the world as far as the steps of a share show it
abbrev pub shown_world : NodePart → World
shown_world p = shown_from empty_world p.steps

-- what is kept is what the share shows of its node
pub record Shows (p : NodePart) (s : Stored) : Type 0 where
  pub node_is : s.rooms.node ≡ p.node
  pub shown : Matches (shown_world p) s

-- the share shows that its node holds nothing, and that it has used no counter
pub record ShowsNothing (p : NodePart) : Type 0 where
  pub no_rows : (home : ℕ) (key : List ℕ) → shown_row p home key ≡ []
  pub no_counters : (key : List ℕ) → shows_counter p key ≡ 0

-- a row with its home, where there is one
abbrev pub listed : ℕ → Option Siblings → List (ℕ × Siblings)
listed home None = []
listed home (Some row) = (home, row) ∷ []

-- the hints of a key for the homes below this number
abbrev pub hints_below : Hints → List ℕ → ℕ → List (ℕ × Siblings)
hints_below hints key zero = []
hints_below hints key (suc n) =
    hints_below hints key n ++ listed n (maps.get hints (n, key))

-- what is kept of a key: the node's own row, and the hints in the order of their homes
abbrev pub kept_rows : Rooms → List ℕ → List (ℕ × Siblings)
kept_rows r key = listed r.node (maps.get r.rows key) ++ hints_below r.hints key MAX_NODES
