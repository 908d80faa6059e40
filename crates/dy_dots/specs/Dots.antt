-- Dots, and sets of dots.
use Rattle.std.specs.Prelude.{◌≡◌, ℕ, refl, ◌<◌, ◌≤◌, ◌⊎◌, ◌==◌, ◌&&◌, ◌||◌, nat_lt, Bool, true}
use Rattle.std.specs.Prelude.{List, [], ◌∷◌, ◌++◌, codes, decimal, if◌then◌else◌}
use Rattle.std.specs.declared.cmp.Ordering.{Ordering}
use Rattle.std.specs.Ordering.{nat_cmp, ordering_then}
use Rattle.std.specs.Coded.{Coded, code_by, coded×, coded_ℕ}
use Rattle.std.specs.FinSet as set
use Rattle.dy_dots.specs.declared.nodes.TheConstants.{MAX_NODES}
use Rattle.dy_dots.specs.declared.dots.TheConstants.{MAX_COUNTER}

-- what a dot is seen as: the numbers of its node and of its counter. These definitions stand below
-- the type, so it has a name of its own here; above them the type's name, `Dot`, is the same
pub record DotNumbers : Type 0 where
  pub node : ℕ
  pub counter : ℕ

-- the numbers are those of a dot
abbrev pub IsDot : DotNumbers → Type 0
IsDot d = (d.node < MAX_NODES) × (1 ≤ d.counter) × (d.counter ≤ MAX_COUNTER)

-- whether two dots are the same
abbrev pub same_dot : DotNumbers → DotNumbers → Bool
same_dot a b = (a.node == b.node) && (a.counter == b.counter)

-- the first dot comes before the second: by node, then by counter
abbrev pub IsDotBefore : DotNumbers → DotNumbers → Type 0
IsDotBefore a b = (a.node < b.node) ⊎ ((a.node ≡ b.node) × (a.counter < b.counter))

-- the same as a test
abbrev pub comes_before : DotNumbers → DotNumbers → Bool
comes_before a b = nat_lt a.node b.node || ((a.node == b.node) && nat_lt a.counter b.counter)

-- dots go by node, then by counter
abbrev pub dot_cmp : DotNumbers → DotNumbers → Ordering
dot_cmp a b = ordering_then (nat_cmp a.node b.node) (nat_cmp a.counter b.counter)

-- a set of dots
abbrev pub DotSet : Type 0
DotSet = set.FinSet dot_cmp

-- the set has dots alone, whose nodes and counters are in range
abbrev pub AreDots : DotSet → Type 0
AreDots s = (d : DotNumbers) → set.contains s d ≡ true → IsDot d

-- a dot is stored as the pair of its numbers
abbrev pub dot_code : Coded DotNumbers
dot_code =
    code_by (ℕ × ℕ) (coded× coded_ℕ coded_ℕ)
    (λ d. (d.node, d.counter)) (λ p. record { node = p.0; counter = p.1 }) (λ _. refl)

-- a set of dots is stored by how its dots are
abbrev pub dot_set_code : Coded DotSet
dot_set_code = set.code dot_code

-- the head of a dot of the node: the letter n, the node's number, and a colon
abbrev pub head_text : ℕ → List ℕ
head_text node = codes "n" ++ decimal node ++ codes ":"

-- a dot is printed as n, its node, a colon and its counter
abbrev pub dot_text : DotNumbers → List ℕ
dot_text d = head_text d.node ++ decimal d.counter

-- a dot put in its place among dots that rise
abbrev pub placed : DotNumbers → List DotNumbers → List DotNumbers
placed d [] = d ∷ []
placed d (x ∷ xs) =
    if comes_before d x then d ∷ x ∷ xs
    else if same_dot d x then x ∷ xs
    else x ∷ placed d xs

-- the dots in order, each once
abbrev pub in_order : List DotNumbers → List DotNumbers
in_order [] = []
in_order (d ∷ ds) = placed d (in_order ds)

-- the dots of a set, rising
abbrev pub dots_of : DotSet → List DotNumbers
dots_of s = in_order (set.items s)
