-- Rings, where a key lies on one, and how far the nodes are from it.
use Rattle.std.specs.Prelude.{ℕ, Bool, ◌+◌, ◌-◌, ◌%◌, ◌^◌, ◌<◌, ◌≤◌, ◌==◌, IsTrue, min, refl}
use Rattle.std.specs.Prelude.{map, fold, List, [], ◌∷◌}
use Rattle.std.specs.List.{All, filter, list_any}
use Rattle.std.specs.Int.{w128, from_be_bytes}
use Rattle.std.specs.Coded.{Coded, code_by, coded×, coded_ℕ, coded_list}
use Rattle.md5.specs.Md5.{md5}
use Rattle.dy_dots.specs.declared.nodes.TheConstants.{MAX_NODES}

-- what a ring is seen as: how many nodes it has, and each token's position with its node, in
-- rising position
pub record Tokens : Type 0 where
  pub nodes : ℕ
  pub tokens : List (ℕ × ℕ)

-- it is stored as the pair of both
abbrev pub tokens_code : Coded Tokens
tokens_code =
    code_by (ℕ × List (ℕ × ℕ)) (coded× coded_ℕ (coded_list (coded× coded_ℕ coded_ℕ)))
    (λ r. (r.nodes, r.tokens)) (λ p. record { nodes = p.0; tokens = p.1 }) (λ _. refl)

-- f of each element is less than f of every later one
abbrev pub Rises : {X : Type 0} → (X → ℕ) → List X → Type 0
Rises f [] = Unit {0}
Rises f (x ∷ xs) = All (λ y. f x < f y) xs × Rises f xs

-- whether the node has one of the tokens
abbrev pub has_token : List (ℕ × ℕ) → ℕ → Bool
has_token tokens node = list_any (λ t. t.1 == node) tokens

-- what is true of every ring: some nodes, tokens in rising position, so that no two share one, each
-- of one of the nodes, and each node with a token (Dynamo, section 4.2)
pub record IsRing (ring : Tokens) : Type 0 where
  pub some : 1 ≤ ring.nodes
  pub few : ring.nodes ≤ MAX_NODES
  pub rising : Rises (λ t. t.0) ring.tokens
  pub positions : All (λ t. t.0 < 2 ^ 128) ring.tokens
  pub of_nodes : All (λ t. t.1 < ring.nodes) ring.tokens
  pub each_has : (node : ℕ) → node < ring.nodes → IsTrue (has_token ring.tokens node)

-- a key's position is its MD5 digest (RFC 1321) as a number, the first byte the greatest
-- (Dynamo, section 4.1)
abbrev pub position_of : List ℕ → ℕ
position_of key = from_be_bytes w128 (md5 key)

-- how far clockwise a token lies behind a position; a token at the position itself is met last
-- (Dynamo, section 4.2)
abbrev pub distance_to : ℕ → ℕ → ℕ
distance_to position token = (token + 2 ^ 128 - position - 1) % 2 ^ 128

-- the distance of a node's nearest token
abbrev pub node_distance : Tokens → ℕ → ℕ → ℕ
node_distance ring position node =
    fold min (2 ^ 128) (map (λ t. distance_to position t.0) (filter (λ t. t.1 == node) ring.tokens))
