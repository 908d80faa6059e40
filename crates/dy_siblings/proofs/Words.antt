-- The bytes of a long key, filled up with zeros, are ordered word by word as the key's bytes are.
use Rattle.std.proofs.Common.{◌≡◌, ◌<◌, ◌≤◌, ◌+◌, ◌*◌, ◌-◌, ◌∷◌, ◌++◌, List, ℕ, zero, suc, get_or, drop, take, length, true, false}
use Rattle.std.proofs.Common.{refl, sym, ◌∙◌, ap, subst, arith, inl, inr}
use Rattle.std.proofs.lemmas.Bool.{cases_eq, cases_lt, cases_Bool, false_from_ne_true, eqb-true, eqb-false}
use Rattle.std.proofs.lemmas.Grind.{get_or_after_one, same_number_lists}
use Rattle.std.proofs.lemmas.List.{drop-drop, get_or-drop, get_or_past, get_or_append_left, get_or-append_right, get_or-replicate, get_or-take, length-replicate, length-take-le}
use Rattle.std.specs.Cmp.{nat_cmp_is}
use Rattle.std.specs.Cmp.Lexicographic.{pointwise, slice_cmp, bytes_decides}
use Rattle.std.specs.Ordering.{nat_cmp, ordering_then}
use Rattle.std.specs.declared.cmp.Ordering.TheVariants.{Less, Equal, Greater}
use Rattle.std.proofs.Common.{nat_eq, replicate}
use Rattle.dy_siblings.specs.inside.Leads.{bytes_from, front_of, lead_from, AreBytes, AreFilled}
use Rattle.dy_siblings.proofs.Leads.{before, behind, by_count, front_take, lead_less, same_bytes_of}

-- ---- zeros behind the bytes

-- zeros are read as zeros
zeros : (n i : ℕ) → get_or {A = ℕ} (replicate n 0) i 0 ≡ 0
zeros n i = elim (cases_lt i n) [
  | inl lt ↦ get_or-replicate n i 0 0 lt
  | inr ge ↦ get_or_past (replicate n 0) i 0 (omega (arith, ge, length-replicate {A = ℕ} n 0))
]

-- bytes before so many zeros, of which as many are left out
pub before_zeros : (n : ℕ) (bytes : List ℕ) →
    AreFilled bytes (bytes ++ drop (length bytes) (replicate n 0))
before_zeros n bytes i = elim (cases_lt i (length bytes)) [
  | inl lt ↦ get_or_append_left bytes (drop (length bytes) (replicate n 0)) 0 i lt
  | inr ge ↦ get_or-append_right bytes (drop (length bytes) (replicate n 0)) (length bytes) i 0 refl ge
      ∙ get_or-drop (length bytes) (replicate n 0) (i - length bytes) 0
      ∙ zeros n (length bytes + (i - length bytes)) ∙ sym (get_or_past bytes i 0 ge)
]

-- they make the same numbers
pub same_lead : (n a : ℕ) (bytes all : List ℕ) → AreFilled bytes all →
    lead_from n a all ≡ lead_from n a bytes
same_lead zero a bytes all same = refl
same_lead (suc n) a bytes all same =
    (λ i. lead_from n (a * 256 + same 0 i) (drop 1 all))
    ∙ same_lead n (a * 256 + get_or bytes 0 0) (drop 1 bytes) (drop 1 all)
    (λ i. get_or_after_one all i 0 ∙ same (1 + i) ∙ sym (get_or_after_one bytes i 0))

-- and the same fronts
pub same_front : (n place : ℕ) (bytes all : List ℕ) → AreFilled bytes all →
    bytes_from n place all ≡ bytes_from n place bytes
same_front zero place bytes all same = refl
same_front (suc n) place bytes all same =
    λ i. same place i ∷ same_front n (place + 1) bytes all same i

-- bytes are equal as they are with zeros behind them
pub same_bytes : (xs ys all others : List ℕ) → AreFilled xs all → AreFilled ys others →
    length xs ≡ length ys → length all ≡ length others →
    pointwise nat_eq all others ≡ pointwise nat_eq xs ys
same_bytes xs ys all others mine theirs one_length one_size = elim (cases_Bool (pointwise nat_eq all others)) [
  | inl one ↦ (let same : xs ≡ ys = same_number_lists xs ys one_length
      (λ k _. sym (mine k) ∙ ap (λ l. get_or l k 0) ((bytes_decides all others).0 one) ∙ theirs k) in
      one ∙ sym ((bytes_decides xs ys).1 same))
  | inr two ↦ two ∙ sym (false_from_ne_true (pointwise nat_eq xs ys)
      (λ one. let same : all ≡ others = same_number_lists all others one_size
      (λ k _. mine k ∙ ap (λ l. get_or l k 0) ((bytes_decides xs ys).0 one) ∙ sym (theirs k)) in
      let is : true ≡ false = sym ((bytes_decides all others).1 same) ∙ two in absurd (cc)))
]

-- ---- words

-- without so many of them they are bytes still
drop_bytes : (m : ℕ) (xs : List ℕ) → AreBytes xs → AreBytes (drop m xs)
drop_bytes m xs small i = subst (λ b. b < 256) (sym (get_or-drop m xs i 0)) (small (m + i))

-- a number is made of that of its first bytes
split : (m n a : ℕ) (xs : List ℕ) →
    lead_from (m + n) a xs ≡ lead_from n (lead_from m a xs) (drop m xs)
split zero n a xs =
    let none : 0 + n ≡ n = omega arith in ap (λ k. lead_from k a xs) none
split (suc m) n a xs =
    let more : suc m + n ≡ suc (m + n) = omega arith in
    let next : 1 + m ≡ suc m = omega arith in
    ap (λ k. lead_from k a xs) more
    ∙ split m n (a * 256 + get_or xs 0 0) (drop 1 xs)
    ∙ ap (λ l. lead_from n (lead_from m (a * 256 + get_or xs 0 0) (drop 1 xs)) l)
    (drop-drop m 1 xs ∙ ap (λ k. drop k xs) next)

-- that of eight more bytes
word_more : (a : ℕ) (xs : List ℕ) → lead_from 8 a xs ≡ a * 18446744073709551616 + lead_from 8 0 xs
word_more a xs = omega arith

-- one more word is the same
pub same_word : (m : ℕ) (xs ys : List ℕ) → lead_from m 0 xs ≡ lead_from m 0 ys →
    lead_from 8 0 (drop m xs) ≡ lead_from 8 0 (drop m ys) →
    lead_from (m + 8) 0 xs ≡ lead_from (m + 8) 0 ys
same_word m xs ys same one =
    split m 8 0 xs ∙ word_more (lead_from m 0 xs) (drop m xs)
    ∙ (λ i. same i * 18446744073709551616 + one i)
    ∙ sym (split m 8 0 ys ∙ word_more (lead_from m 0 ys) (drop m ys))

-- the lesser first word that differs makes the lesser number
less_word : (m n : ℕ) (xs ys : List ℕ) → AreBytes xs → AreBytes ys → m + 8 ≤ n →
    lead_from m 0 xs ≡ lead_from m 0 ys →
    lead_from 8 0 (drop m xs) < lead_from 8 0 (drop m ys) → lead_from n 0 xs < lead_from n 0 ys
less_word m n xs ys small others few same less =
    let all : (m + 8) + (n - (m + 8)) ≡ n = omega (arith, few) in
    let mine = split m 8 0 xs ∙ word_more (lead_from m 0 xs) (drop m xs) in
    let theirs = split m 8 0 ys ∙ word_more (lead_from m 0 ys) (drop m ys) in
    let below : lead_from (m + 8) 0 xs < lead_from (m + 8) 0 ys = less_more (lead_from m 0 xs) (lead_from m 0 ys)
    (lead_from 8 0 (drop m xs)) (lead_from 8 0 (drop m ys)) (lead_from (m + 8) 0 xs) (lead_from (m + 8) 0 ys)
    mine theirs same less in
    subst (λ k. lead_from k 0 xs < lead_from k 0 ys) all
    (subst (λ k. k < lead_from ((m + 8) + (n - (m + 8))) 0 ys) (sym (split (m + 8) (n - (m + 8)) 0 xs))
    (subst (λ k. lead_from (n - (m + 8)) (lead_from (m + 8) 0 xs) (drop (m + 8) xs) < k)
    (sym (split (m + 8) (n - (m + 8)) 0 ys))
    (lead_less (n - (m + 8)) (lead_from (m + 8) 0 xs) (lead_from (m + 8) 0 ys) (drop (m + 8) xs)
    (drop (m + 8) ys) (drop_bytes (m + 8) xs small) (drop_bytes (m + 8) ys others) below)))
  where
    less_more : (a b x y k l : ℕ) → k ≡ a * 18446744073709551616 + x → l ≡ b * 18446744073709551616 + y →
        a ≡ b → x < y → k < l
    less_more a b x y k l mine theirs same less = omega (arith, mine, theirs, same, less)

-- numbers are ordered as the first words that differ
pub by_word : (m n : ℕ) (xs ys : List ℕ) → AreBytes xs → AreBytes ys → m + 8 ≤ n →
    lead_from m 0 xs ≡ lead_from m 0 ys → (x y : ℕ) → x ≡ lead_from 8 0 (drop m xs) →
    y ≡ lead_from 8 0 (drop m ys) → (x ≡ y → ⊥) →
    nat_cmp x y ≡ nat_cmp (lead_from n 0 xs) (lead_from n 0 ys)
by_word m n xs ys small others few same x y x_is y_is differ = elim (cases_lt x y) [
  | inl lt ↦ sym (nat_cmp_is x y Less lt) ∙ nat_cmp_is (lead_from n 0 xs) (lead_from n 0 ys) Less
      (less_word m n xs ys small others few same
      (subst (λ k. k < lead_from 8 0 (drop m ys)) x_is (subst (λ k. x < k) y_is lt)))
  | inr ge ↦ (let gt : y < x = omega (arith, ge, differ) in
      sym (nat_cmp_is x y Greater gt) ∙ nat_cmp_is (lead_from n 0 xs) (lead_from n 0 ys) Greater
      (less_word m n ys xs others small few (sym same)
      (subst (λ k. k < lead_from 8 0 (drop m xs)) y_is (subst (λ k. y < k) x_is gt))))
]

-- keys are ordered by all their bytes, and then by their lengths
pub ordered_by_all : (n : ℕ) (xs ys : List ℕ) → AreBytes xs → AreBytes ys → length xs ≤ n →
    ordering_then (nat_cmp (lead_from n 0 xs) (lead_from n 0 ys)) (nat_cmp (length xs) (length ys))
    ≡ slice_cmp nat_cmp xs ys
ordered_by_all n xs ys small others few = elim (cases_eq (lead_from n 0 xs) (lead_from n 0 ys)) [
  | inl one ↦ (let counts = by_count n 0 xs ys small others one (inl few) in
      ap (λ o. ordering_then o (nat_cmp (length xs) (length ys)))
      (sym (nat_cmp_is (lead_from n 0 xs) (lead_from n 0 ys) Equal one))
      ∙ sym (nat_cmp_is (length xs) (length ys) (slice_cmp nat_cmp xs ys) counts))
  | inr differ ↦ elim (cases_lt (lead_from n 0 xs) (lead_from n 0 ys)) [
    | inl lt ↦ ap (λ o. ordering_then o (nat_cmp (length xs) (length ys)))
        (sym (nat_cmp_is (lead_from n 0 xs) (lead_from n 0 ys) Less lt))
        ∙ sym (before n 0 xs ys small others lt)
    | inr ge ↦ (let gt : lead_from n 0 ys < lead_from n 0 xs = omega (arith, ge, differ) in
        ap (λ o. ordering_then o (nat_cmp (length xs) (length ys)))
        (sym (nat_cmp_is (lead_from n 0 xs) (lead_from n 0 ys) Greater gt))
        ∙ sym (behind n 0 xs ys small others gt))
  ]
]

-- ---- fronts, of two words that share a byte

-- seven of eight bytes that are the same
same_seven : (xs ys : List ℕ) → AreBytes xs → AreBytes ys →
    lead_from 8 0 xs ≡ lead_from 8 0 ys → lead_from 7 0 xs ≡ lead_from 7 0 ys
same_seven xs ys small others same =
    let mine = split 7 1 0 xs in
    let theirs = split 7 1 0 ys in
    let last = drop_bytes 7 xs small 0 in
    let ends = drop_bytes 7 ys others 0 in
    omega (arith, mine, theirs, last, ends, same)

-- fronts of the same words are the same
pub same_words : (xs ys : List ℕ) → AreBytes xs → AreBytes ys → lead_from 8 0 xs ≡ lead_from 8 0 ys →
    lead_from 8 0 (drop 7 xs) ≡ lead_from 8 0 (drop 7 ys) → lead_from 15 0 xs ≡ lead_from 15 0 ys
same_words xs ys small others first last = same_word 7 xs ys (same_seven xs ys small others first) last

-- whether fronts are the same, where their first words are
pub same_last : (xs ys : List ℕ) → AreBytes xs → AreBytes ys → length xs ≡ 15 → length ys ≡ 15 →
    lead_from 8 0 xs ≡ lead_from 8 0 ys → (x y : ℕ) → x ≡ lead_from 8 0 (drop 7 xs) →
    y ≡ lead_from 8 0 (drop 7 ys) → nat_eq x y ≡ pointwise nat_eq xs ys
same_last xs ys small others mine theirs first x y x_is y_is = elim (cases_Bool (nat_eq x y)) [
  | inl one ↦ one ∙ sym (same_bytes_of xs ys small others mine theirs
      (same_words xs ys small others first (sym x_is ∙ eqb-true x y one ∙ y_is)))
  | inr two ↦ two ∙ sym (false_from_ne_true (pointwise nat_eq xs ys)
      (λ is. eqb-false x y two (x_is ∙ ap (λ l. lead_from 8 0 (drop 7 l)) ((bytes_decides xs ys).0 is) ∙ sym y_is)))
]

-- short keys are the same as their fronts are
pub same_fronts : (xs ys : List ℕ) → length xs ≤ 14 → length ys ≤ 14 →
    pointwise nat_eq (front_of xs) (front_of ys) ≡ pointwise nat_eq xs ys
same_fronts xs ys few less = elim (cases_Bool (pointwise nat_eq xs ys)) [
  | inl one ↦ (bytes_decides (front_of xs) (front_of ys)).1 (ap front_of ((bytes_decides xs ys).0 one)) ∙ sym one
  | inr two ↦ false_from_ne_true (pointwise nat_eq (front_of xs) (front_of ys))
      (λ is. let same : xs ≡ ys = sym (front_take xs few)
      ∙ ap (λ front. take (get_or front 14 0) front) ((bytes_decides (front_of xs) (front_of ys)).0 is)
      ∙ front_take ys less in
      let no : true ≡ false = sym ((bytes_decides xs ys).1 same) ∙ two in absurd (cc)) ∙ sym two
]

-- and else they are ordered as the words that differ
pub by_first : (xs ys : List ℕ) → AreBytes xs → AreBytes ys → (x y : ℕ) → x ≡ lead_from 8 0 xs →
    y ≡ lead_from 8 0 ys → (x ≡ y → ⊥) → nat_cmp x y ≡ nat_cmp (lead_from 15 0 xs) (lead_from 15 0 ys)
by_first xs ys small others x y x_is y_is differ =
    by_word 0 15 xs ys small others (omega arith) refl x y x_is y_is differ

pub by_last : (xs ys : List ℕ) → AreBytes xs → AreBytes ys → lead_from 8 0 xs ≡ lead_from 8 0 ys →
    (x y : ℕ) → x ≡ lead_from 8 0 (drop 7 xs) → y ≡ lead_from 8 0 (drop 7 ys) →
    nat_cmp x y ≡ nat_cmp (lead_from 15 0 xs) (lead_from 15 0 ys)
by_last xs ys small others first x y x_is y_is = elim (cases_eq x y) [
  | inl one ↦ sym (nat_cmp_is x y Equal one)
      ∙ nat_cmp_is (lead_from 15 0 xs) (lead_from 15 0 ys) Equal
      (same_words xs ys small others first (sym x_is ∙ one ∙ y_is))
  | inr differ ↦ by_word 7 15 xs ys small others (omega arith) (same_seven xs ys small others first) x y x_is y_is differ
]

-- so many of them are the bytes
pub taken : (count : ℕ) (bytes all : List ℕ) → count ≡ length bytes → AreFilled bytes all →
    length bytes ≤ length all → take count all ≡ bytes
taken count bytes all count_is filled fit =
    ap (λ c. take c all) count_is
    ∙ same_number_lists (take (length bytes) all) bytes (length-take-le (length bytes) all fit)
    (λ k less. get_or-take (length bytes) all k 0 (omega (arith, less, length-take-le (length bytes) all fit)) ∙ filled k)
