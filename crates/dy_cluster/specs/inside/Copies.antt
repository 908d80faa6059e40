-- Copies of kept steps.
use Rattle.std.specs.Prelude.{List, [], ◌∷◌}
use Rattle.dy_core.specs.declared.steps.Step.{Step}
use Rattle.dy_shares.specs.Trails.{Keeps}
use Rattle.dy_shares.specs.declared.kept_steps.KeptStep.{KeptStep}

-- the copy keeps what this one keeps
abbrev pub IsCopy : KeptStep → KeptStep → Type 0
IsCopy kept copy = (s : Step) → Keeps kept s → Keeps copy s

-- each is a copy of the one at its place
abbrev pub AreCopies : List KeptStep → List KeptStep → Type 0
AreCopies [] [] = Unit {0}
AreCopies [] (c ∷ cs) = ⊥
AreCopies (k ∷ ks) [] = ⊥
AreCopies (k ∷ ks) (c ∷ cs) = IsCopy k c × AreCopies ks cs
