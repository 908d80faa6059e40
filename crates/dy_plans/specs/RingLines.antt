-- What `dynamo ring` prints: the tokens of the script's ring, and the preference list of each key.
use Rattle.std.specs.Prelude.{ℕ, List, [], ◌∷◌, ◌++◌, Result, Ok, IfOk}
use Rattle.dy_dots.specs.declared.faults.Fault.{Fault}
use Rattle.dy_ring.specs.Rings.{Tokens, position_of}
use Rattle.dy_ring.specs.Lists.{IsRingOf, MakesUnlessMemory, RefusesClash, RefusesTooMany}
use Rattle.dy_ring.specs.Lists.{RefusesWithout, TellsClash, derived_lists}
use Rattle.dy_preference.specs.Preferences.{preference_of}
use Rattle.dy_lines.specs.Texts.{line}
use Rattle.dy_lines.specs.Audits.{key_text}
use Rattle.dy_lines.specs.Clusters.{token_lines}
use Rattle.dy_script.specs.Reading.{LayoutParts, given, derived}

-- the lists of tokens that a layout says, one a node
abbrev pub lists_of : LayoutParts → List (List ℕ)
lists_of (given lists) = lists
lists_of (derived nodes per_node) = derived_lists nodes per_node

-- what is made of the lists: their ring, or why they are refused
pub record IsRingMade (lists : List (List ℕ)) (made : Result Tokens Fault) : Type 0 where
  pub ok : IfOk made (IsRingOf lists)
  pub too_many : RefusesTooMany lists made
  pub without : RefusesWithout lists made
  pub clash : RefusesClash lists made
  pub told : TellsClash lists made
  pub memory : MakesUnlessMemory lists made

-- the ring has exactly the tokens of the layout, which nothing refuses
abbrev pub IsLaidOut : LayoutParts → Tokens → Type 0
IsLaidOut layout ring = IsRingMade (lists_of layout) (Ok ring)

-- a line for each key, with all nodes in the order in which it prefers them
abbrev pub key_lines : Tokens → List (List ℕ) → List ℕ
key_lines ring [] = []
key_lines ring (k ∷ ks) =
    line (key_text k (position_of k) (preference_of ring k)) ++ key_lines ring ks

-- the tokens in rising position, and then the keys in the order of the script
abbrev pub ring_lines : Tokens → List (List ℕ) → List ℕ
ring_lines ring keys = token_lines ring.tokens ++ key_lines ring keys
