-- Indexes: what the book knows of each key, and how it means the world.
use Rattle.std.specs.Prelude.{◌≡◌, ℕ, List, [], Option, None, Some}
use Rattle.std.specs.List.{All}
use Rattle.std.specs.List.Sorted.{IsStrictlySortedBy}
use Rattle.std.specs.Map.{lookup}
use Rattle.dy_siblings.specs.Siblings.{IsSameRow, same_key}
use Rattle.dy_siblings.specs.declared.versions.Version.{Version}
use Rattle.dy_core.specs.Worlds.{Layout, World, row_at}
use Rattle.dy_core.specs.Logs.{IsLegal, world_after}
use Rattle.dy_core.specs.inside.Meanings.{row_in}
use Rattle.dy_core.specs.Orders.{holding_cmp}
use Rattle.dy_core.specs.declared.holdings.Holding.{Holding}
use Rattle.dy_core.specs.declared.steps.Step.{Step}
use Rattle.dy_index.specs.Lists.{made_of, list_at}
use Rattle.dy_index.specs.declared.parts.KeyPart.{KeyPart}

-- the versions of a node in a part of the index
abbrev pub made_by : KeyPart → ℕ → List Version
made_by p node = list_at p.made.items node

-- what the index has of a key, where it has anything
abbrev pub part_at : List (List ℕ × KeyPart) → List ℕ → Option KeyPart
part_at entries key = lookup (same_key key) entries

-- the versions of a node, where there is a part
abbrev pub made_in : Option KeyPart → ℕ → List Version
made_in None node = []
made_in (Some p) node = made_by p node

-- what is held, where there is a part
abbrev pub places_in : Option KeyPart → List Holding
places_in None = []
places_in (Some p) = p.places.items

-- the versions by node, and what is held, are what the world has of the key
pub record AreOfKey (w : World) (key : List ℕ) (made : ℕ → List Version) (places : List Holding)
    : Type 0 where
  pub made_are : (node : ℕ) → made node ≡ made_of w.versions key node
  pub rows_are : (holder home : ℕ) →
      IsSameRow (row_in places holder home key) (row_at w holder home key)
  pub in_order : IsStrictlySortedBy holding_cmp places
  pub of_key : All (λ h. h.row.key ≡ key) places

-- the part is what the world has of the key
abbrev pub IsPart : World → List ℕ → Option KeyPart → Type 0
IsPart w key p = AreOfKey w key (made_in p) (places_in p)

-- the steps are a legal log, and the part is what the world after it has of the key
pub record IsPartAfter (steps : List Step) (key : List ℕ) (p : Option KeyPart) : Type 0 where
  pub layout : Layout
  pub legal : IsLegal layout steps
  pub part : IsPart (world_after steps) key p

-- the index has what the world has, key by key
abbrev pub IsIndex : World → List (List ℕ × KeyPart) → Type 0
IsIndex w entries = (key : List ℕ) → IsPart w key (part_at entries key)
