-- The texts of bytes, positions and nodes, and the end of a line.
use Rattle.std.specs.Prelude.{ℕ, List, ◌++◌, codes, decimal}
use Rattle.std.specs.List.{flat_map}
use Rattle.std.specs.Int.{w128, to_be_bytes}
use Rattle.hex.specs.Hex.{encode_lower}

-- a byte is two hexadecimal digits, with lower-case letters
abbrev pub hex_text : List ℕ → List ℕ
hex_text bytes = encode_lower bytes

-- a position is the digits of its 16 bytes, the greatest first
abbrev pub position_text : ℕ → List ℕ
position_text position = hex_text (to_be_bytes w128 position)

-- items of these texts stand each behind a blank
abbrev pub listed_text : {A : Type 0} → (A → List ℕ) → List A → List ℕ
listed_text text items = flat_map (λ item. codes " " ++ text item) items

-- so do nodes
abbrev pub nodes_text : List ℕ → List ℕ
nodes_text nodes = listed_text decimal nodes

-- a text with the end of its line
abbrev pub line : List ℕ → List ℕ
line text = text ++ codes "\n"
