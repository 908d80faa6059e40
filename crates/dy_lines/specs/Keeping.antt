-- The texts of what a node keeps of a key.
use Rattle.std.specs.Prelude.{ℕ, ◌==◌, List, [], ◌++◌, codes, decimal, Bool, if◌then◌else◌}
use Rattle.std.specs.List.{flat_map, list_any}
use Rattle.dy_dots.specs.Spelling.{context_text}
use Rattle.dy_lines.specs.declared.keeping.Kept.{Kept}

-- whether it is kept for this home
abbrev pub is_for : ℕ → Kept → Bool
is_for home k = k.home == home

-- what is kept for the node itself is told by its dots
abbrev pub own_part : ℕ → Kept → List ℕ
own_part node k = if is_for node k then context_text k.dots else []

-- what the node keeps for itself, which may be nothing
abbrev pub own_text : ℕ → List Kept → List ℕ
own_text node kept =
    if list_any (is_for node) kept then flat_map (own_part node) kept else codes "-"

-- a hint is told with its home
abbrev pub hint_text : ℕ → Kept → List ℕ
hint_text node k =
    if is_for node k then []
    else codes " for " ++ decimal k.home ++ codes " " ++ context_text k.dots

-- what it keeps for each other home, in the order of the list
abbrev pub hints_text : ℕ → List Kept → List ℕ
hints_text node kept = flat_map (hint_text node) kept

-- what it keeps for itself, and then for each other home
abbrev pub all_kept_text : ℕ → List Kept → List ℕ
all_kept_text node kept = own_text node kept ++ hints_text node kept
