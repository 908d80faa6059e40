-- The values that are present of what is held, whoever holds it.
use Rattle.std.specs.Prelude.{◌↔◌, ℕ, List, flat_map}
use Rattle.std.specs.List.{Contains, filter}
use Rattle.std.specs.List.Sorted.{IsStrictlySortedBy}
use Rattle.std.specs.Ordering.{ordering_then}
use Rattle.std.specs.declared.cmp.Ordering.{Ordering}
use Rattle.dy_dots.specs.Dots.{dot_cmp}
use Rattle.dy_siblings.specs.Siblings.{newest, present_values, same_key}
use Rattle.dy_siblings.specs.declared.versions.Version.{Version}
use Rattle.dy_core.specs.Orders.{key_cmp}
use Rattle.dy_core.specs.declared.holdings.Holding.{Holding}
use Rattle.dy_node.specs.Nodes.{RestState}
use Rattle.dy_node.specs.Stored.{versions_at}
use Rattle.dy_cluster.specs.declared.values.PresentValue.{PresentValue}

-- the versions of the key that are held, by whomever and for whomever
abbrev pub versions_held : List Holding → List ℕ → List Version
versions_held held key =
    flat_map (λ h. h.row.versions) (filter (λ h. same_key h.row.key key) held)

-- one of these nodes keeps the version of the key, for whichever home
abbrev pub KeepsVersion : List RestState → List ℕ → Version → Type 0
KeepsVersion rests key v =
    (r : RestState) × Contains rests r
    × ((home : ℕ) × Contains (versions_at r.stored.rooms home key) v)

-- the merge of all rows of the key that are held has the dot's value
abbrev pub IsPresent : List Holding → PresentValue → Type 0
IsPresent held x =
    Contains (present_values (newest (versions_held held x.key))) (x.dot, x.value)

-- by key, then by dot; and by value, where two had one dot
abbrev pub present_cmp : PresentValue → PresentValue → Ordering
present_cmp a b =
    ordering_then (key_cmp a.key b.key)
    (ordering_then (dot_cmp a.dot b.dot) (key_cmp a.value b.value))

-- the list has exactly the values that are present, each once, by key and then by dot
pub record ArePresent (held : List Holding) (xs : List PresentValue) : Type 0 where
  pub are_all : (x : PresentValue) → Contains xs x ↔ IsPresent held x
  pub are_ordered : IsStrictlySortedBy present_cmp xs
