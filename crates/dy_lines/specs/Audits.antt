-- The lines of the audit, and of the ring.
use Rattle.std.specs.Prelude.{ℕ, ◌==◌, List, ◌++◌, codes, decimal, Option, Some, None}
use Rattle.std.specs.Prelude.{if◌then◌else◌}
use Rattle.dy_dots.specs.Dots.{DotSet, dot_text}
use Rattle.dy_dots.specs.Spelling.{context_text}
use Rattle.dy_dots.specs.declared.dots.Dot.{Dot}
use Rattle.dy_lines.specs.Texts.{hex_text, position_text, nodes_text}
use Rattle.dy_lines.specs.Places.{place_text, places_text}
use Rattle.dy_core.specs.declared.places.Place.{Place}

-- a place, a key, and the text of the dots held there
abbrev pub held_text : Place → List ℕ → DotSet → List ℕ
held_text place key dots =
    codes "held " ++ place_text place
    ++ codes " " ++ hex_text key ++ codes " " ++ context_text dots

-- the number of homes that a put named, where it is another than w
abbrev pub own_w_of : ℕ → ℕ → Option ℕ
own_w_of w named = if named == w then None else Some named

-- the number of homes that a put named, where it is told
abbrev pub own_w_text : Option ℕ → List ℕ
own_w_text None = codes ""
own_w_text (Some w) = codes " w " ++ decimal w

-- a key, a dot, and where it is covered
abbrev pub acked_text : List ℕ → Dot → Option ℕ → List Place → List ℕ
acked_text key dot own_w places =
    codes "acked " ++ hex_text key ++ codes " " ++ dot_text dot
    ++ own_w_text own_w ++ codes " covered" ++ places_text places

-- a settled key
abbrev pub settled_text : List ℕ → List ℕ
settled_text key = codes "settled " ++ hex_text key

-- the sums: versions held, acks, answered gets, steps
abbrev pub end_text : ℕ → ℕ → ℕ → ℕ → List ℕ
end_text held acked gets steps =
    codes "end held " ++ decimal held ++ codes " acked " ++ decimal acked
    ++ codes " gets " ++ decimal gets ++ codes " steps " ++ decimal steps

-- a token's position and its node
abbrev pub token_text : ℕ → ℕ → List ℕ
token_text position node = codes "token " ++ position_text position ++ codes " " ++ decimal node

-- a key, its position, and its whole preference list
abbrev pub key_text : List ℕ → ℕ → List ℕ → List ℕ
key_text key position nodes =
    codes "key " ++ hex_text key ++ codes " position " ++ position_text position
    ++ codes " nodes" ++ nodes_text nodes
