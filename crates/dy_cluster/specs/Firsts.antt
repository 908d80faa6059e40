-- The shares that nodes begin with.
use Rattle.std.specs.Prelude.{◌≡◌, ℕ, ◌+◌, List, [], ◌∷◌}
use Rattle.dy_shares.specs.Shares.{NodePart}

-- the shares are of the nodes from this number on, in their order, and none has made a step
abbrev pub AreFirstFrom : ℕ → List NodePart → Type 0
AreFirstFrom number [] = Unit {0}
AreFirstFrom number (part ∷ parts) =
    (part.node ≡ number) × (part.steps ≡ []) × AreFirstFrom (number + 1) parts
