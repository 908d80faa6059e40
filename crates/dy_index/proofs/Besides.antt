-- One holding of a list in order that is replaced by another at the same place.
use Rattle.std.proofs.Common.{◌≡◌, ℕ, ◌<◌, List, [], ◌∷◌, length, get_or, set, map, refl, sym, ap}
use Rattle.std.proofs.Common.{◌∙◌, ◌≤◌, zero, suc, arith, insert, Bool, true, false, cond, ◌||◌}
use Rattle.std.proofs.lemmas.Bool.{false≢true}
use Rattle.std.specs.declared.cmp.Ordering.TheVariants.{Less, Greater}
use Rattle.std.specs.Ordering.{match_ordering, ordering_reverse}
use Rattle.std.specs.List.{AllByRecursion, list_any}
use Rattle.std.specs.List.Sorted.{IsStrictlySortedBy}
use Rattle.dy_core.specs.Orders.{holding_cmp, put}
use Rattle.dy_core.specs.declared.holdings.Holding.{Holding}
use Rattle.dy_core.specs.inside.Meanings.{is_at, row_in}
use Rattle.dy_core.proofs.Held.{IsSameSpot, holding_cmp_total, tie_from_spots}

-- what holds of each holding holds of that at an index
all_at : (P : Holding → Type 0) (hs : List Holding) (at : ℕ) (d : Holding) →
    AllByRecursion P hs → at < length hs → P (get_or hs at d)
all_at P [] at d all lt = absurd (omega (arith, lt))
all_at P (y ∷ ys) zero d all lt = all.0
all_at P (y ∷ ys) (suc at) d all lt = all_at P ys at d all.1 (omega (arith, lt))

-- where no holding is at the place, its row has no version
pub nothing_there : (holder home : ℕ) (key : List ℕ) (hs : List Holding) →
    list_any (is_at holder home key) hs ≡ false → row_in hs holder home key ≡ []
nothing_there holder home key [] e = refl
nothing_there holder home key (y ∷ ys) e =
    go (is_at holder home key y) e (nothing_there holder home key ys)
  where
    go : (b : Bool) → (b || list_any (is_at holder home key) ys) ≡ false →
        (list_any (is_at holder home key) ys ≡ false → row_in ys holder home key ≡ []) →
        cond b y.row.versions (row_in ys holder home key) ≡ []
    go true e below = absurd (false≢true (sym e))
    go false e below = below e

-- putting one at the place of a holding replaces that
pub put_there : (hs : List Holding) (at : ℕ) (d x : Holding) → IsStrictlySortedBy holding_cmp hs →
    at < length hs → IsSameSpot x (get_or hs at d) → set hs at x ≡ put holding_cmp hs x
unfolding IsStrictlySortedBy
put_there [] at d x sorted lt same = absurd (omega (arith, lt))
put_there (y ∷ ys) zero d x sorted lt same =
    sym (ap (λ r. match_ordering r (x ∷ y ∷ ys) (x ∷ ys) (y ∷ put holding_cmp ys x))
    (tie_from_spots x y same))
put_there (y ∷ ys) (suc at) d x sorted lt same =
    let h = get_or ys at d in
    let below : holding_cmp y h ≡ Less =
    all_at (λ z. holding_cmp y z ≡ Less) ys at d sorted.0 (omega (arith, lt)) in
    let above : holding_cmp x y ≡ Greater =
    holding_cmp_total.congr x h y (tie_from_spots x h same)
    ∙ (holding_cmp_total.antisymm h y ∙ ap ordering_reverse below) in
    ap (λ zs. y ∷ zs) (put_there ys at d x sorted.1 (omega (arith, lt)) same)
    ∙ sym (ap (λ r. match_ordering r (x ∷ y ∷ ys) (x ∷ ys) (y ∷ put holding_cmp ys x)) above)

-- what the items give, where one is inserted
pub map-insert : {X Y : Type 0} (f : X → Y) (xs : List X) (at : ℕ) (x : X) → at ≤ length xs →
    map f (insert xs at x) ≡ insert (map f xs) at (f x)
map-insert f xs zero x le = refl
map-insert f [] (suc at) x le = absurd (omega (arith, le))
map-insert f (y ∷ ys) (suc at) x le = ap (λ zs. f y ∷ zs) (map-insert f ys at x (omega (arith, le)))
