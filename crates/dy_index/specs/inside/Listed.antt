-- What the whole index lists.
use Rattle.std.specs.Prelude.{ℕ, List, [], ◌∷◌, if◌then◌else◌, Bool, ◌&&◌, not}
use Rattle.std.specs.List.{list_any}
use Rattle.dy_core.specs.declared.holdings.Holding.{Holding}
use Rattle.dy_index.specs.inside.Held.{has_some, is_hint_here, listed_from}
use Rattle.dy_index.specs.declared.parts.KeyPart.{KeyPart}

-- the list with all that the entries have put in its place
abbrev pub held_in_all : List Holding → List (List ℕ × KeyPart) → List Holding
held_in_all held [] = held
held_in_all held (e ∷ es) = held_in_all (listed_from held e.1.places.items) es

-- whether the part has a version, and all that is held of the key is held by its homes
abbrev pub settled_part : KeyPart → Bool
settled_part p = list_any has_some p.made.items && not (list_any is_hint_here p.places.items)

-- the keys of the entries that are settled
abbrev pub settled_keys : List (List ℕ × KeyPart) → List (List ℕ)
settled_keys [] = []
settled_keys (e ∷ es) = if settled_part e.1 then e.0 ∷ settled_keys es else settled_keys es
