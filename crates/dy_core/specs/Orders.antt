-- The orders in which a world lists what it has, and how an item goes into a list that is in order.
use Rattle.std.specs.Prelude.{ℕ, Bool, if◌then◌else◌, fold, List, [], ◌∷◌}
use Rattle.std.specs.declared.cmp.Ordering.{Ordering}
use Rattle.std.specs.Ordering.{nat_cmp, ordering_then, match_ordering}
use Rattle.std.specs.Cmp.Lexicographic.{slice_cmp}
use Rattle.dy_dots.specs.Dots.{dot_cmp}
use Rattle.dy_core.specs.declared.acks.Acked.{Acked}
use Rattle.dy_core.specs.declared.places.Place.{Place}
use Rattle.dy_core.specs.declared.holdings.Holding.{Holding}

-- keys go by their bytes
abbrev pub key_cmp : List ℕ → List ℕ → Ordering
key_cmp j k = slice_cmp nat_cmp j k

-- holdings go by holder, then by home, then by key
abbrev pub holding_cmp : Holding → Holding → Ordering
holding_cmp a b =
    ordering_then (nat_cmp a.holder b.holder)
    (ordering_then (nat_cmp a.home b.home) (key_cmp a.row.key b.row.key))

-- acks go by key, then by dot, then by w
abbrev pub ack_cmp : Acked → Acked → Ordering
ack_cmp a b =
    ordering_then (key_cmp a.key b.key) (ordering_then (dot_cmp a.dot b.dot) (nat_cmp a.w b.w))

-- places go by home, then by holder
abbrev pub place_cmp : Place → Place → Ordering
place_cmp a b = ordering_then (nat_cmp a.home b.home) (nat_cmp a.holder b.holder)

-- the list with the item in its place: before the first that comes after it, or in place of one
-- that ties with it
abbrev pub put : {X : Type 0} → (X → X → Ordering) → List X → X → List X
put cmp [] x = x ∷ []
put cmp (y ∷ ys) x = match_ordering (cmp x y) (x ∷ y ∷ ys) (x ∷ ys) (y ∷ put cmp ys x)

-- what those that pass a test give, each put into its place
abbrev pub gathered : {X Y : Type 0} → (Y → Y → Ordering) → (X → Bool) → (X → Y) → List X → List Y
gathered cmp test of xs = fold (λ ys x. if test x then put cmp ys (of x) else ys) [] xs
