-- What is held at the places of one key.
use Rattle.std.specs.Prelude.{ℕ, List, [], ◌∷◌, ◌++◌, if◌then◌else◌, Bool, ◌&&◌, not, eqb, fold}
use Rattle.std.specs.Prelude.{Option, None, Some}
use Rattle.dy_dots.specs.declared.dots.Dot.{Dot}
use Rattle.dy_siblings.specs.Siblings.{without}
use Rattle.dy_siblings.specs.declared.versions.Version.{Version}
use Rattle.dy_core.specs.inside.Meanings.{is_at, is_nothing}
use Rattle.dy_core.specs.declared.holdings.Holding.{Holding}

-- whether there is a version
abbrev pub has_some : List Version → Bool
has_some vs = not (is_nothing vs)

-- whether the holding has a version, and is for another node
abbrev pub is_hint_here : Holding → Bool
is_hint_here h = not (eqb h.holder h.home) && not (is_nothing h.row.versions)

-- whether the holding has a version
abbrev pub is_some : Holding → Bool
is_some h = not (is_nothing h.row.versions)

-- the list with what has a version at its end
abbrev pub listed_from : List Holding → List Holding → List Holding
listed_from held hs = fold (λ list h. if is_some h then list ++ h ∷ [] else list) held hs

-- the dots of which the one stands alone, or else all these
abbrev pub dots_in : Option Dot → List Dot → List Dot
dots_in None more = more
dots_in (Some d) more = d ∷ []

-- what is held, without the dot where it is held at the place
abbrev pub released : ℕ → ℕ → List ℕ → Dot → Holding → Holding
released holder home key d h =
    record {
      holder = h.holder;
      home = h.home;
      row = record {
        key = h.row.key;
        versions =
            if is_at holder home key h then without h.row.versions d else h.row.versions;
      };
    }
