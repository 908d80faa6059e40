-- The versions of a key, node by node, and what is held of it.
use Rattle.std.specs.Prelude.{◌≡◌, ℕ, ◌+◌, List, [], ◌∷◌, ◌++◌, slice_index_or, if◌then◌else◌}
use Rattle.std.specs.Coded.{Coded}
use Rattle.std.specs.List.{Contains}
use Rattle.std.specs.List.Sorted.{IsStrictlySortedBy}
use Rattle.std.specs.declared.cmp.Ordering.{Ordering}
use Rattle.std.specs.declared.cmp.Ordering.TheVariants.{Equal}
use Rattle.dy_dots.specs.declared.dots.Dot.{Dot}
use Rattle.dy_siblings.specs.Siblings.{without}
use Rattle.dy_siblings.specs.declared.versions.Version.{Version}
use Rattle.dy_core.specs.inside.Meanings.{is_by}
use Rattle.dy_core.specs.contracts.holdings.Holding as holding
use Rattle.dy_core.specs.declared.holdings.Holding.{Holding}

-- a holding as plain data
abbrev pub holding_code : Coded Holding
holding_code = holding.the_row.coded

-- the versions that a node made of a key, the oldest first
abbrev pub made_of : List Version → List ℕ → ℕ → List Version
made_of [] key node = []
made_of (v ∷ vs) key node =
    if is_by v node key then made_of vs key node ++ v ∷ [] else made_of vs key node

-- each version is of the node, and their counters go on from this one
abbrev pub AreCounted : ℕ → ℕ → List Version → Type 0
AreCounted node n [] = Unit {0}
AreCounted node n (v ∷ vs) =
    (v.dot ≡ record { node = node; counter = n + 1 }) × AreCounted node (n + 1) vs

-- the versions of a node, where the n-th list is of node n
abbrev pub list_at : List (List Version) → ℕ → List Version
list_at made node = slice_index_or made node []

-- the two have the same versions of each node
abbrev pub HaveSameMade : List (List Version) → List (List Version) → Type 0
HaveSameMade made others = (node : ℕ) → list_at made node ≡ list_at others node

-- the list has the items in order, and of those that tie one
pub record IsInOrder {X : Type 0} (cmp : X → X → Ordering) (items list : List X) : Type 0 where
  pub in_order : IsStrictlySortedBy cmp list
  pub is_item : (x : X) → Contains list x → Contains items x
  pub tied : (x : X) → Contains items x → (y : X) × Contains list y × (cmp x y ≡ Equal)

-- the holding without the version of the dot
abbrev pub taken_out : Dot → Holding → Holding
taken_out d h = record {
  holder = h.holder;
  home = h.home;
  row = record { key = h.row.key; versions = without h.row.versions d };
}

-- the holding with the version in the place of all others
abbrev pub held_alone : Version → Holding → Holding
held_alone v h = record {
  holder = h.holder;
  home = h.home;
  row = record { key = h.row.key; versions = v ∷ [] };
}
