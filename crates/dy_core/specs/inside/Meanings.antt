-- How the lists inside a world mean it.
use Rattle.std.specs.Prelude.{◌≡◌, ℕ, ◌<◌, ◌≤◌, ◌==◌, Bool, ◌&&◌, ◌||◌, not, true, false, ◌↔◌, max}
use Rattle.std.specs.Prelude.{fold, length, map, nat_eq, if◌then◌else◌, List, [], ◌∷◌}
use Rattle.std.specs.List.{list_any, filter, All, Contains, IsDistinct}
use Rattle.std.specs.List.Sorted.{IsStrictlySortedBy}
use Rattle.std.specs.FinSet as set
use Rattle.dy_dots.specs.Dots.{DotSet}
use Rattle.dy_siblings.specs.Versions.{in_history}
use Rattle.dy_siblings.specs.Siblings.{IsSameRow, same_key}
use Rattle.dy_ring.specs.Rings.{Tokens}
use Rattle.dy_core.specs.Worlds.{Layout, layout_of, World, is_issued, row_at}
use Rattle.dy_core.specs.Steps.{same_place}
use Rattle.dy_core.specs.Logs.{world_after, IsLegal}
use Rattle.dy_core.specs.Orders.{holding_cmp, ack_cmp, put}
use Rattle.dy_dots.specs.Runs.{in_runs}
use Rattle.dy_dots.specs.declared.runs.Run.{Run}
use Rattle.dy_dots.specs.declared.dots.Dot.{Dot}
use Rattle.dy_siblings.specs.declared.versions.Version.{Version}
use Rattle.dy_core.specs.declared.steps.Step.{Step}
use Rattle.dy_core.specs.declared.acks.Acked.{Acked}
use Rattle.dy_core.specs.declared.places.Place.{Place}
use Rattle.dy_core.specs.declared.holdings.Holding.{Holding}

-- whether the version is of the key and the context names it
abbrev pub is_named : Version → List ℕ → DotSet → Bool
is_named v key context = same_key v.key key && set.contains context v.dot

-- whether a version of the key that the context names reaches back to the dot
abbrev pub named_in : List Version → List ℕ → DotSet → Dot → Bool
named_in vs key context d = list_any (λ v. is_named v key context && in_history v d) vs

-- whether the node made this version of the key
abbrev pub is_by : Version → ℕ → List ℕ → Bool
is_by v node key = (v.dot.node == node) && same_key v.key key

-- the greatest counter that the node used for the key in these versions
abbrev pub last_in : List Version → ℕ → List ℕ → ℕ
last_in vs node key = fold (λ a v. if is_by v node key then max a v.dot.counter else a) 0 vs

-- whether the holding is at the place
abbrev pub is_at : ℕ → ℕ → List ℕ → Holding → Bool
is_at holder home key h = same_place holder home key h.holder h.home h.row.key

-- the versions of the holding at the place, none where there is no such holding
abbrev pub row_in : List Holding → ℕ → ℕ → List ℕ → List Version
row_in [] holder home key = []
row_in (h ∷ hs) holder home key =
    if is_at holder home key h then h.row.versions else row_in hs holder home key

-- the holdings but that at the place
abbrev pub others : ℕ → ℕ → List ℕ → List Holding → List Holding
others holder home key hs = filter (λ h. not (is_at holder home key h)) hs

-- whether there is no version
abbrev pub is_nothing : List Version → Bool
is_nothing [] = true
is_nothing (v ∷ vs) = false

-- the holdings with this one in its place, or with none there where it has no version
abbrev pub kept : List Holding → Holding → List Holding
kept hs h =
    if is_nothing h.row.versions
    then others h.holder h.home h.row.key hs
    else put holding_cmp hs h

-- these lists are the world's
pub record Meets (w : World) (versions : List Version) (held : List Holding) (acked : List Acked)
    : Type 0 where
  pub versions_are : IsSameRow versions w.versions
  pub rows_are : (holder home : ℕ) (key : List ℕ) →
      IsSameRow (row_in held holder home key) (row_at w holder home key)
  pub none_empty : All (λ h. 0 < length h.row.versions) held
  pub held_in_order : IsStrictlySortedBy holding_cmp held
  pub acks_are : (a : Acked) → Contains acked a ↔ Contains w.acks a
  pub acks_in_order : IsStrictlySortedBy ack_cmp acked

-- the steps are a legal log, and the lists are those of the world after it
pub record IsAfter (layout : Layout) (steps : List Step) (versions : List Version)
    (held : List Holding) (acked : List Acked) : Type 0 where
  pub is_legal : IsLegal layout steps
  pub meets : Meets (world_after steps) versions held acked

-- a key has some homes, and no more than the ring has nodes, and the lists are those after the
-- steps
pub record IsInside (ring : Tokens) (n : ℕ) (steps : List Step) (versions : List Version)
    (held : List Holding) (acked : List Acked) : Type 0 where
  pub some : 1 ≤ n
  pub enough : n ≤ ring.nodes
  pub after : IsAfter (layout_of ring n) steps versions held acked

-- whether the holding is of the key, and for another node
abbrev pub is_hint : List ℕ → Holding → Bool
is_hint key h = not (h.holder == h.home) && same_key h.row.key key

-- whether what is held of the key is held by its homes alone
abbrev pub settled_in : List Holding → List ℕ → Bool
settled_in held key = not (list_any (is_hint key) held)

-- each counter of the run below this one is of a version of the key
abbrev pub AreIssuedBelow : List Version → List ℕ → Run → ℕ → Type 0
AreIssuedBelow vs key r n = (c : ℕ) → r.first ≤ c → c < n →
    is_issued vs key (record { node = r.node; counter = c }) ≡ true

-- the dot is the first of the run that is of no version of the key
pub record IsFirstUnissued (vs : List Version) (key : List ℕ) (r : Run) (d : Dot) : Type 0 where
  pub node_is : d.node ≡ r.node
  pub from : r.first ≤ d.counter
  pub upto : d.counter ≤ r.last
  pub not_issued : is_issued vs key d ≡ false
  pub before : AreIssuedBelow vs key r d.counter

-- each dot of the runs is of a version of the key
abbrev pub AreIssuedIn : List Version → List ℕ → List Run → Type 0
AreIssuedIn vs key rs = (e : Dot) → in_runs rs e ≡ true → is_issued vs key e ≡ true

-- whether two places have their home or their holder in common
abbrev pub clashes : Place → Place → Bool
clashes p q = (q.home == p.home) || (q.holder == p.holder)

-- some of these places, no two with one home or with one holder
pub record AreChosen (places chosen : List Place) : Type 0 where
  pub inside : (p : Place) → Contains chosen p → Contains places p
  pub homes_distinct : IsDistinct nat_eq (map (λ p. p.home) chosen)
  pub holders_distinct : IsDistinct nat_eq (map (λ p. p.holder) chosen)

-- so many of these places, no two with one home or with one holder
pub record CanChoose (places : List Place) (count : ℕ) : Type 0 where
  pub chosen : List Place
  pub count_is : length chosen ≡ count
  pub are_chosen : AreChosen places chosen

-- those of the places that have neither the home nor the holder of this one
abbrev pub apart_from : Place → List Place → List Place
apart_from p places = filter (λ q. not (clashes p q)) places
