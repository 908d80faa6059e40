-- Which nodes of a preference list are asked first.
use Rattle.std.specs.Prelude.{ℕ, ◌==◌, not, take, List}
use Rattle.std.specs.List.{filter}
use Rattle.dy_preference.specs.Preferences.{Preferred}

-- the homes of a preference list
abbrev pub homes_in : Preferred → List ℕ
homes_in list = take list.n list.nodes

-- the homes that a coordinator asks: all but the one that it holds for
abbrev pub asked_homes : ℕ → List ℕ → List ℕ
asked_homes held homes = filter (λ home. not (home == held)) homes
