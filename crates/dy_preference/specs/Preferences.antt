-- Which nodes a key prefers, and who may hold it for whom.
use Rattle.std.specs.Prelude.{ℕ, zero, suc, ◌≡◌, ◌≤◌, ◌==◌, ◌&&◌, ◌||◌, not, nat_eq, nat_le}
use Rattle.std.specs.Prelude.{nat_lt, Bool, if◌then◌else◌, refl}
use Rattle.std.specs.Prelude.{List, [], ◌∷◌, length, slice_index_or, take, drop}
use Rattle.std.specs.List.{IsDistinct, filter, list_any}
use Rattle.std.specs.Coded.{Coded, code_by, coded×, coded_ℕ, coded_list}
use Rattle.dy_dots.specs.declared.nodes.TheConstants.{MAX_NODES}
use Rattle.dy_ring.specs.Rings.{Tokens, Rises, position_of, node_distance}

-- the list with x put before the first that is no nearer
abbrev pub put_by : (ℕ → ℕ) → ℕ → List ℕ → List ℕ
put_by far x [] = x ∷ []
put_by far x (y ∷ ys) = if nat_le (far x) (far y) then x ∷ y ∷ ys else y ∷ put_by far x ys

-- the nodes below n, by rising distance
abbrev pub nodes_by : (ℕ → ℕ) → ℕ → List ℕ
nodes_by far zero = []
nodes_by far (suc n) = put_by far n (nodes_by far n)

-- the preference list of a key: all nodes, by rising distance of their nearest token
-- (Dynamo, section 4.3)
abbrev pub preference_of : Tokens → List ℕ → List ℕ
preference_of ring key = nodes_by (node_distance ring (position_of key)) ring.nodes

-- what is true of a preference list, and of no other: each node of the ring comes once, by strictly
-- rising distance from the position (Dynamo, section 4.3)
pub record IsByDistance (ring : Tokens) (position : ℕ) (nodes : List ℕ) : Type 0 where
  pub each_node : (node : ℕ) → list_any (λ n. n == node) nodes ≡ nat_lt node ring.nodes
  pub once : IsDistinct nat_eq nodes
  pub count : length nodes ≡ ring.nodes
  pub rising : Rises (node_distance ring position) nodes

-- the homes of a key are the first n of its preference list
abbrev pub homes_of : Tokens → ℕ → List ℕ → List ℕ
homes_of ring n key = take n (preference_of ring key)

-- whether the node is one of the homes
abbrev pub is_home : List ℕ → ℕ → Bool
is_home homes node = list_any (λ home. home == node) homes

-- whether the holder may hold for the home: a home holds for itself alone, and any other node for
-- any home
abbrev pub may_hold : List ℕ → ℕ → ℕ → Bool
may_hold homes holder home = is_home homes home && ((holder == home) || not (is_home homes holder))

-- the home that the coordinator holds for: itself where it is one, else the first
abbrev pub home_for : List ℕ → ℕ → ℕ
home_for homes coordinator =
    if is_home homes coordinator then coordinator else slice_index_or homes 0 coordinator

-- the nodes that may stand in for a home, in the order in which they are asked: those past the
-- first n, without the coordinator (Dynamo, section 4.6)
abbrev pub stand_ins_of : List ℕ → ℕ → ℕ → List ℕ
stand_ins_of nodes n coordinator = filter (λ node. not (node == coordinator)) (drop n nodes)

-- what a preference list is seen as: its nodes, and how many of them are homes
pub record Preferred : Type 0 where
  pub nodes : List ℕ
  pub n : ℕ

-- it is stored as the pair of both
abbrev pub preferred_code : Coded Preferred
preferred_code =
    code_by (List ℕ × ℕ) (coded× (coded_list coded_ℕ) coded_ℕ)
    (λ p. (p.nodes, p.n)) (λ p. record { nodes = p.0; n = p.1 }) (λ _. refl)

-- what is true of every preference list: its nodes are distinct, and some of them are homes; there
-- are no more than a ring may have
pub record IsPreferred (list : Preferred) : Type 0 where
  pub some : 1 ≤ list.n
  pub enough : list.n ≤ length list.nodes
  pub few : length list.nodes ≤ MAX_NODES
  pub distinct : IsDistinct nat_eq list.nodes
