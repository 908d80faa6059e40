-- Lists of tokens, one a node, and the ring that they make.
use Rattle.std.specs.Prelude.{◌≡◌, ◌↔◌, ◌⊎◌, ℕ, ◌<◌, ◌==◌, ◌&&◌, ◌||◌, nat_lt, max}
use Rattle.std.specs.Prelude.{IsTrue, Bool, false, List, [], ◌∷◌, ◌++◌, length, map, slice_index_or}
use Rattle.std.specs.Prelude.{Result, IsErrOf, IsOkUnless}
use Rattle.std.specs.List.{list_any, count_by, concat, range_with_len}
use Rattle.std.specs.Fmt.{decimal}
use Rattle.dy_ring.specs.Rings.{Tokens, position_of}
use Rattle.dy_dots.specs.declared.faults.Fault.{Fault}
use Rattle.dy_dots.specs.declared.faults.Fault.TheVariants.{OutOfMemory, TooMany, NodeWithoutToken}
use Rattle.dy_dots.specs.declared.faults.Fault.TheVariants.{TokenClash}
use Rattle.dy_dots.specs.declared.nodes.TheConstants.{MAX_NODES}
use Rattle.dy_ring.specs.declared.rings.TheConstants.{MAX_TOKENS_PER_NODE}

-- whether these are too many nodes, or one of them has too many tokens
abbrev pub has_too_many : List (List ℕ) → Bool
has_too_many lists =
    nat_lt MAX_NODES (length lists)
    || list_any (λ list. nat_lt MAX_TOKENS_PER_NODE (length list)) lists

-- the positions of the node's tokens
abbrev pub positions_at : List (List ℕ) → ℕ → List ℕ
positions_at lists node = slice_index_or lists node []

-- whether the node has no token; no node at all counts as node 0 without one
abbrev pub lacks_token : List (List ℕ) → ℕ → Bool
lacks_token lists node =
    nat_lt node (max 1 (length lists)) && (length (positions_at lists node) == 0)

-- whether two tokens lie at the position
abbrev pub has_clash : List (List ℕ) → ℕ → Bool
has_clash lists position = nat_lt 1 (count_by (λ p. p == position) (concat lists))

-- the least number that passes the test
abbrev pub IsLeast : (ℕ → Bool) → ℕ → Type 0
IsLeast test n = IsTrue (test n) × ((k : ℕ) → k < n → test k ≡ false)

-- there are few enough nodes and tokens, and each node has one
abbrev pub IsFilled : List (List ℕ) → Type 0
IsFilled lists = (has_too_many lists ≡ false) × ((node : ℕ) → lacks_token lists node ≡ false)

-- the ring of these lists: as many nodes, and a token of a node exactly where its list has one
pub record IsRingOf (lists : List (List ℕ)) (ring : Tokens) : Type 0 where
  pub nodes_are : ring.nodes ≡ length lists
  pub tokens_are :
      (position node : ℕ)
      → list_any (λ t. (t.0 == position) && (t.1 == node)) ring.tokens
      ≡ list_any (λ p. p == position) (positions_at lists node)

-- what is made of the lists is refused as too many exactly where they are
abbrev pub RefusesTooMany : List (List ℕ) → Result Tokens Fault → Type 0
RefusesTooMany lists made = IsErrOf made TooMany ↔ IsTrue (has_too_many lists)

-- it is refused for a node exactly where there are not too many, and this is the least without a
-- token
abbrev pub RefusesWithout : List (List ℕ) → Result Tokens Fault → Type 0
RefusesWithout lists made =
    (node : ℕ)
    → IsErrOf made (NodeWithoutToken node)
    ↔ ((has_too_many lists ≡ false) × IsLeast (lacks_token lists) node)

-- it is refused for a clash only where the lists are filled, and this is the least position of one
abbrev pub RefusesClash : List (List ℕ) → Result Tokens Fault → Type 0
RefusesClash lists made =
    (position : ℕ)
    → IsErrOf made (TokenClash position)
    → IsFilled lists × IsLeast (has_clash lists) position

-- where filled lists clash, the least position is told, unless memory ran out
abbrev pub TellsClash : List (List ℕ) → Result Tokens Fault → Type 0
TellsClash lists made =
    (position : ℕ)
    → IsFilled lists
    → IsLeast (has_clash lists) position
    → IsErrOf made (TokenClash position) ⊎ IsErrOf made OutOfMemory

-- where filled lists do not clash, a ring is made, unless memory ran out
abbrev pub MakesUnlessMemory : List (List ℕ) → Result Tokens Fault → Type 0
MakesUnlessMemory lists made =
    IsFilled lists
    → ((position : ℕ) → has_clash lists position ≡ false)
    → IsOkUnless made OutOfMemory

-- a derived token: the position of the node's number in decimal, `#`, the token's in decimal
abbrev pub derived_token : ℕ → ℕ → ℕ
derived_token node number = position_of (decimal node ++ 35 ∷ decimal number)

-- a node's first derived tokens
abbrev pub derived_list : ℕ → ℕ → List ℕ
derived_list node count = map (derived_token node) (range_with_len 0 count)

-- so many derived tokens of each of so many nodes
abbrev pub derived_lists : ℕ → ℕ → List (List ℕ)
derived_lists nodes per_node = map (λ node. derived_list node per_node) (range_with_len 0 nodes)
