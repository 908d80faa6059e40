-- What a world's readers list.
use Rattle.std.specs.Prelude.{◌≡◌, ℕ, ◌<◌, ◌↔◌, Bool, ◌&&◌, length, IsTrue, false, List}
use Rattle.std.specs.List.{All, Contains}
use Rattle.std.specs.FinSet as set
use Rattle.dy_dots.specs.Dots.{DotSet, IsDotBefore}
use Rattle.std.specs.List.Sorted.{IsStrictlySortedBy}
use Rattle.dy_siblings.specs.Siblings.{IsSameRow, same_key, covers}
use Rattle.dy_core.specs.Worlds.{World, IsSettled, is_issued, row_at}
use Rattle.dy_core.specs.Covers.{CoversAt}
use Rattle.dy_core.specs.Orders.{holding_cmp, ack_cmp, place_cmp, key_cmp}
use Rattle.dy_dots.specs.declared.dots.Dot.{Dot}
use Rattle.dy_siblings.specs.declared.versions.Version.{Version}
use Rattle.dy_core.specs.declared.acks.Acked.{Acked}
use Rattle.dy_core.specs.declared.places.Place.{Place}
use Rattle.dy_core.specs.declared.holdings.Holding.{Holding}

-- the holdings are the rows of the world that have a version, each once, by holder, home and key
pub record ListsHoldings (w : World) (hs : List Holding) : Type 0 where
  pub each : All (λ h. IsSameRow h.row.versions (row_at w h.holder h.home h.row.key)) hs
  pub none_empty : All (λ h. 0 < length h.row.versions) hs
  pub every : (holder home : ℕ) (key : List ℕ) (v : Version) →
      Contains (row_at w holder home key) v →
      (h : Holding) × Contains hs h × (h.holder ≡ holder) × (h.home ≡ home) × (h.row.key ≡ key)
  pub in_order : IsStrictlySortedBy holding_cmp hs

-- the acks are those of the world, each once, by key, dot and w
pub record ListsAcks (w : World) (acks : List Acked) : Type 0 where
  pub same : (a : Acked) → Contains acks a ↔ Contains w.acks a
  pub in_order : IsStrictlySortedBy ack_cmp acks

-- whether the holding is of the key and covers the dot
abbrev pub is_covering : List ℕ → Dot → Holding → Bool
is_covering key d h = same_key h.row.key key && covers h.row.versions d

-- the place of a holding
abbrev pub place_of : Holding → Place
place_of h = record { home = h.home; holder = h.holder }

-- the places are all that cover the dot, each once, by home and holder
pub record ListsCovers (w : World) (key : List ℕ) (d : Dot) (places : List Place) : Type 0 where
  pub same : (p : Place) → Contains places p ↔ CoversAt w key d p.holder p.home
  pub in_order : IsStrictlySortedBy place_cmp places

-- the keys are those of which a version was made and that are settled, each once, by their bytes
pub record ListsSettled (w : World) (keys : List (List ℕ)) : Type 0 where
  pub same : (key : List ℕ) → Contains keys key ↔
      ((v : Version) × Contains w.versions v × (v.key ≡ key)) × IsSettled w key
  pub in_order : IsStrictlySortedBy key_cmp keys

-- the dot is the least of the context that is not of one of these versions of the key
pub record IsLeastUnknown (vs : List Version) (key : List ℕ) (context : DotSet) (d : Dot)
    : Type 0 where
  pub in_context : IsTrue (set.contains context d)
  pub not_issued : is_issued vs key d ≡ false
  pub least : (e : Dot) → IsTrue (set.contains context e) → IsDotBefore e d →
      IsTrue (is_issued vs key e)
