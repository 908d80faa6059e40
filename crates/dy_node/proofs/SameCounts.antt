-- Of receipts, the same dots are released whichever of those that name a dot is taken: so the
-- number
-- of those that are released is one. Each of one list has its like in the other, and once it is
-- taken out the rest have theirs among what is left.
use Rattle.std.proofs.Common.{◌≡◌, suc, ◌≤◌, ◌==◌, Bool, ◌||◌, ◌&&◌, true, false}
use Rattle.std.proofs.Common.{true≢false}
use Rattle.std.proofs.Common.{not, cond, List, [], ◌∷◌, filter, length, ⊎_elim, sym, ap, ◌∙◌}
use Rattle.std.proofs.Common.{arith}
use Rattle.std.specs.List.{Contains, list_any}
use Rattle.std.proofs.lemmas.Bool.{and_parts, cases_Bool, eqb-true}
use Rattle.std.proofs.lemmas.List.Elements.{All-contains}
use Rattle.dy_dots.specs.Dots.{same_dot}
use Rattle.dy_siblings.specs.Siblings.{same_key}
use Rattle.dy_siblings.proofs.Members.{any_gives, any_from, filter_in, in_head, in_tail}
use Rattle.dy_dots.proofs.SameDots.{same_dot_is}
use Rattle.dy_siblings.proofs.SameKeys.{same_key_is}
use Rattle.dy_shares.specs.Shares.{ReceiptParts}
use Rattle.dy_book.specs.Books.{AreOfDistinctDots, AreOneDot}
use Rattle.dy_node.specs.Stored.{Rooms}
use Rattle.dy_node.specs.Settling.{AreReleased, IsStanding, same_release}

-- two that are told to be of one home, key and dot are so
pub same_gives : (a b : ReceiptParts) → same_release a b ≡ true → AreOneDot a b
same_gives a b e =
    let p = and_parts (a.home == b.home) (same_key a.key b.key && same_dot a.dot b.dot) e in
    let q = and_parts (same_key a.key b.key) (same_dot a.dot b.dot) p.1 in (
      eqb-true a.home b.home p.0,
      same_key_is a.key b.key q.0,
      same_dot_is a.dot b.dot q.1,
    )

-- what is left of a list is no longer than the list
filter_few : (p : ReceiptParts → Bool) (ys : List ReceiptParts) → length (filter p ys) ≤ length ys
filter_few p [] = omega arith
filter_few p (y ∷ ys) = by_test (p y) (filter_few p ys)
  where
    by_test : (b : Bool) → length (filter p ys) ≤ length ys →
        length (cond b (y ∷ filter p ys) (filter p ys)) ≤ suc (length ys)
    by_test true rest = omega (arith, rest)
    by_test false rest = omega (arith, rest)

-- and shorter, where one of it was taken out
filter_fewer : (p : ReceiptParts → Bool) (ys : List ReceiptParts) → list_any p ys ≡ true →
    suc (length (filter (λ y. not (p y)) ys)) ≤ length ys
filter_fewer p [] e = absurd (true≢false (sym e))
filter_fewer p (y ∷ ys) e = by_test (p y) e (λ h. filter_fewer p ys h)
  where
    by_test : (b : Bool) → (b || list_any p ys) ≡ true →
        (list_any p ys ≡ true → suc (length (filter (λ x. not (p x)) ys)) ≤ length ys) →
        suc (length (cond (not b) (y ∷ filter (λ x. not (p x)) ys) (filter (λ x. not (p x)) ys)))
        ≤ suc (length ys)
    by_test true h later = let rest = filter_few (λ x. not (p x)) ys in omega (arith, rest)
    by_test false h later = let rest = later h in omega (arith, rest)

-- receipts of distinct dots, each with its like among others, are no more than those
no_more : (xs ys : List ReceiptParts) → AreOfDistinctDots xs →
    ((x : ReceiptParts) → Contains xs x → list_any (λ y. same_release y x) ys ≡ true) →
    length xs ≤ length ys
no_more [] ys distinct alike = omega arith
no_more (x ∷ xs) ys distinct alike =
    let less = filter_fewer (λ y. same_release y x) ys (alike x (in_head x xs)) in
    let rest = no_more xs (filter (λ y. not (same_release y x)) ys) distinct.1 left in
    omega (arith, less, rest)
  where
    left : (z : ReceiptParts) → Contains xs z →
        list_any (λ y. same_release y z) (filter (λ y. not (same_release y x)) ys) ≡ true
    left z there =
        let top = any_gives (λ y. same_release y z) ys (alike z (in_tail x z xs there)) in
        let other = ⊎_elim
        (λ same.
        let with_x = same_gives top.item x same in
        let with_z = same_gives top.item z top.passes in
        absurd (All-contains (λ s. AreOneDot x s → ⊥) xs z distinct.0 there
        (sym with_x.0 ∙ with_z.0, sym with_x.1 ∙ with_z.1, sym with_x.2 ∙ with_z.2)))
        (λ apart. apart)
        (cases_Bool (same_release top.item x)) in
        any_from (λ y. same_release y z) (filter (λ y. not (same_release y x)) ys) top.item
        (filter_in (λ y. not (same_release y x)) ys top.item top.in_list (ap not other)) top.passes

more_of : (r : Rooms) (receipts xs ys : List ReceiptParts) → AreReleased r receipts xs →
    AreReleased r receipts ys → length xs ≤ length ys
more_of r receipts xs ys are others = no_more xs ys are.apart (λ x there.
    let of = All-contains (λ z. Contains receipts z × IsStanding r z) xs x are.each there in
    All-contains (λ z. IsStanding r z → list_any (λ y. same_release y z) ys ≡ true) receipts x
    others.every of.0 of.1)

-- however they are chosen, those that are released are as many
pub same_count : (r : Rooms) (receipts xs ys : List ReceiptParts) → AreReleased r receipts xs →
    AreReleased r receipts ys → length xs ≡ length ys
same_count r receipts xs ys are others =
    let one = more_of r receipts xs ys are others in
    let two = more_of r receipts ys xs others are in omega (arith, one, two)
