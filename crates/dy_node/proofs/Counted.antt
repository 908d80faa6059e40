-- As many dots stand as are released. Whether a dot stands depends on home, key and dot alone: so an
-- earlier receipt is of a standing dot exactly where one of those chosen is.
use Rattle.std.proofs.Common.{◌≡◌, ℕ, ◌+◌, ◌<◌, Bool, ◌&&◌, true, false, not, cond}
use Rattle.std.proofs.Common.{List, [], ◌∷◌, ◌++◌, length, length-append, refl, sym, ap, ◌∙◌, subst}
use Rattle.std.proofs.Common.{arith}
use Rattle.std.specs.List.{Contains, list_any}
use Rattle.std.proofs.lemmas.List.Elements.{All-contains, All-weaker}
use Rattle.dy_siblings.proofs.Members.{any_from, any_gives}
use Rattle.dy_shares.specs.Shares.{ReceiptParts}
use Rattle.dy_node.specs.Stored.{Rooms, stands}
use Rattle.dy_node.specs.Settling.{AreReleased, IsStanding, NoneStands, same_release}
use Rattle.dy_node.specs.inside.Chosen.{AreCounted, is_new, taken}
use Rattle.dy_node.proofs.SameCounts.{same_gives}
use Rattle.dy_node.proofs.SettleLemmas.{released_more, released_none, released_nothing}
use Rattle.dy_node.proofs.SettleLemmas.{same_told}

both_same : (a b : Bool) → (a ≡ true → b ≡ true) → (b ≡ true → a ≡ true) → a ≡ b
both_same true b there back = sym (there refl)
both_same false true there back = back refl
both_same false false there back = refl

-- of two of one home, key and dot, the dot of one stands where that of the other does
stands_alike : (r : Rooms) (a b : ReceiptParts) → same_release a b ≡ true →
    stands r a.home a.key a.dot ≡ stands r b.home b.key b.dot
stands_alike r a b e = let same = same_gives a b e in λ i. stands r (same.0 i) (same.1 i) (same.2 i)

-- what is of one home, key and dot with a third, by a second
same_by : (a b d : ReceiptParts) → same_release a b ≡ true → same_release b d ≡ true →
    same_release a d ≡ true
same_by a b d one two =
    let p = same_gives a b one in
    let q = same_gives b d two in
    same_told a d (p.0 ∙ q.0, p.1 ∙ q.1, p.2 ∙ q.2)

module _ (r : Rooms) (xs ys : List ReceiptParts) (x : ReceiptParts) (are : AreReleased r xs ys) where
  among_chosen : IsStanding r x → list_any (λ y. same_release y x) xs ≡ true →
      list_any (λ y. same_release y x) ys ≡ true
  among_chosen st there =
      let y = any_gives (λ z. same_release z x) xs there in
      let standing = stands_alike r y.item x y.passes ∙ st in
      let found = All-contains (λ z. IsStanding r z → list_any (λ w. same_release w z) ys ≡ true) xs
      y.item are.every y.in_list standing in
      let w = any_gives (λ z. same_release z y.item) ys found in
      any_from (λ z. same_release z x) ys w.item w.in_list
      (same_by w.item y.item x w.passes y.passes)

  among_all : list_any (λ y. same_release y x) ys ≡ true →
      list_any (λ y. same_release y x) xs ≡ true
  among_all there =
      let y = any_gives (λ z. same_release z x) ys there in
      let from = All-contains (λ z. Contains xs z × IsStanding r z) ys y.item are.each y.in_list in
      any_from (λ z. same_release z x) xs y.item from.0 y.passes

  new_by : (b : Bool) → stands r x.home x.key x.dot ≡ b →
      (b && not (list_any (λ y. same_release y x) xs))
      ≡ (b && not (list_any (λ y. same_release y x) ys))
  new_by false no_ = refl
  new_by true st = ap not (both_same (list_any (λ y. same_release y x) xs)
      (list_any (λ y. same_release y x) ys) (among_chosen st) among_all)

  -- it is new among all exactly where it is new among those chosen
  new_alike : is_new r xs x ≡ is_new r ys x
  new_alike = new_by (stands r x.home x.key x.dot) refl

length_more : (b : Bool) (ys : List ReceiptParts) (x : ReceiptParts) →
    cond b (length ys + 1) (length ys) ≡ length (cond b (ys ++ x ∷ []) ys)
length_more true ys x = sym (length-append ys (x ∷ []))
length_more false ys x = refl

-- of no receipt none is counted
pub counted_none : (r : Rooms) → AreCounted r [] 0
counted_none r = record { released = []; are_released = released_none r; count_is = refl }

-- one receipt more is counted where it is new
counted_more : (r : Rooms) (xs : List ReceiptParts) (x : ReceiptParts) (count : ℕ) →
    AreCounted r xs count → AreCounted r (xs ++ x ∷ []) (cond (is_new r xs x) (count + 1) count)
counted_more r xs x count are = record {
  released = taken r are.released x;
  are_released = released_more r xs are.released x are.are_released;
  count_is = (λ i. cond (new_alike r xs are.released x are.are_released i) (are.count_is i + 1)
      (are.count_is i))
      ∙ length_more (is_new r are.released x) are.released x;
}

-- so the next count is right, whichever was told
pub counted_next : (r : Rooms) (xs zs : List ReceiptParts) (x : ReceiptParts) (count next : ℕ)
    (told : Bool) → AreCounted r xs count → zs ≡ xs ++ x ∷ [] → told ≡ is_new r xs x →
    next ≡ cond told (count + 1) count → AreCounted r zs next
counted_next r xs zs x count next told are grows told_is next_is =
    subst (λ n. AreCounted r zs n)
    (sym (next_is ∙ ap (λ b. cond b (count + 1) count) told_is))
    (subst (λ l. AreCounted r l (cond (is_new r xs x) (count + 1) count)) (sym grows)
    (counted_more r xs x count are))

-- where nothing is released nothing stands
none_released : (r : Rooms) (receipts : List ReceiptParts) → AreReleased r receipts [] →
    NoneStands r receipts
none_released r receipts are =
    All-weaker (λ x. IsStanding r x → list_any (λ y. same_release y x) [] ≡ true)
    (λ x. stands r x.home x.key x.dot ≡ false)
    (λ x gives. by_test (stands r x.home x.key x.dot) gives) receipts are.every
  where
    by_test : (b : Bool) → (b ≡ true → false ≡ true) → b ≡ false
    by_test true gives = sym (gives refl)
    by_test false gives = refl

some_released : (r : Rooms) (receipts released : List ReceiptParts) →
    AreReleased r receipts released → (NoneStands r receipts → ⊥) → 0 < length released
some_released r receipts [] are some = absurd (some (none_released r receipts are))
some_released r receipts (x ∷ xs) are some = omega arith

-- where something stands some are counted
pub some_counted : (r : Rooms) (receipts : List ReceiptParts) (count : ℕ) →
    AreCounted r receipts count → (NoneStands r receipts → ⊥) → 0 < count
some_counted r receipts count are some =
    let more = some_released r receipts are.released are.are_released some in
    omega (arith, more, are.count_is)

-- where nothing stands none is counted
pub none_counted : (r : Rooms) (receipts : List ReceiptParts) (count : ℕ) →
    AreCounted r receipts count → NoneStands r receipts → 0 < count → ⊥
none_counted r receipts count are none more =
    let empty = ap length (released_nothing r receipts are.released none are.are_released) in
    absurd (omega (arith, more, are.count_is, empty))
