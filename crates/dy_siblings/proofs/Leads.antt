-- Numbers of first bytes are ordered as the bytes are.
use Rattle.std.proofs.Common.{◌≡◌, ◌<◌, ◌≤◌, ◌+◌, ◌*◌, ◌∷◌, [], List, ℕ, zero, suc, get_or, drop, take, length, true, ◌-◌}
use Rattle.std.proofs.Common.{refl, sym, ◌∙◌, ap, subst, arith, inl, inr, ⊎_elim, ◌⊎◌, ◌++◌}
use Rattle.std.proofs.lemmas.Bool.{cases_eq, cases_lt}
use Rattle.std.proofs.lemmas.Grind.{get_or_after_one}
use Rattle.std.proofs.lemmas.List.{drop-drop, drop_all, drop_more, get_or-drop}
use Rattle.std.specs.Cmp.{nat_cmp_is}
use Rattle.std.specs.Cmp.Lexicographic.{slice_cmp}
use Rattle.std.specs.Ordering.{nat_cmp, ordering_then, ordering_reverse, is_eq, MatchOrdering}
use Rattle.std.specs.Str.{bytes_eq}
use Rattle.std.proofs.lemmas.Map.Text.{is_eq-slice_cmp}
use Rattle.std.proofs.lemmas.Cmp.{nat_list_cmp_total}
use Rattle.std.specs.declared.cmp.Ordering.{Ordering}
use Rattle.std.specs.declared.cmp.Ordering.TheVariants.{Less, Equal, Greater}
use Rattle.dy_siblings.specs.inside.Leads.{bytes_from, front_of, lead_from, number_of, AreBytes}

-- without the first they are bytes still
rest_bytes : (xs : List ℕ) → AreBytes xs → AreBytes (drop 1 xs)
rest_bytes xs small i = subst (λ b. b < 256) (sym (get_or_after_one xs i 0)) (small (1 + i))

-- a lesser number stays lesser, whatever bytes follow
pub lead_less : (n a b : ℕ) (xs ys : List ℕ) → AreBytes xs → AreBytes ys → a < b →
    lead_from n a xs < lead_from n b ys
lead_less zero a b xs ys small others less = less
lead_less (suc n) a b xs ys small others less =
    let x = small 0 in
    lead_less n (a * 256 + get_or xs 0 0) (b * 256 + get_or ys 0 0) (drop 1 xs) (drop 1 ys)
    (rest_bytes xs small) (rest_bytes ys others) (omega arith)

-- nothing stands before no bytes
none_before : (xs : List ℕ) → slice_cmp nat_cmp xs [] ≡ Less → ⊥
none_before [] e = absurd (cc)
none_before (x ∷ xs) e = absurd (cc)

-- the bytes of the lesser number stand before
pub before : (n a : ℕ) (xs ys : List ℕ) → AreBytes xs → AreBytes ys →
    lead_from n a xs < lead_from n a ys → slice_cmp nat_cmp xs ys ≡ Less
before zero a xs ys small others less = absurd (omega arith)
before (suc n) a [] [] small others less = absurd (omega arith)
before (suc n) a [] (y ∷ ys) small others less = refl
before (suc n) a (x ∷ xs) [] small others less = elim (cases_eq x 0) [
  | inl none ↦ absurd (none_before xs (before n (a * 256 + 0) xs [] (rest_bytes (x ∷ xs) small) (rest_bytes [] others) (subst (λ z. lead_from n (a * 256 + z) xs < lead_from n (a * 256 + 0) []) none less)))
  | inr some ↦ (let back = lead_less n (a * 256 + 0) (a * 256 + x) [] xs (rest_bytes [] others) (rest_bytes (x ∷ xs) small) (omega arith) in absurd (omega arith))
]
before (suc n) a (x ∷ xs) (y ∷ ys) small others less = elim (cases_eq x y) [
  | inl same ↦ subst (λ o. ordering_then o (slice_cmp nat_cmp xs ys) ≡ Less) (nat_cmp_is x y Equal same)
      (before n (a * 256 + x) xs ys (rest_bytes (x ∷ xs) small) (rest_bytes (y ∷ ys) others)
      (subst (λ z. lead_from n (a * 256 + x) xs < lead_from n (a * 256 + z) ys) (sym same) less))
  | inr other ↦ elim (cases_lt x y) [
    | inl lt ↦ subst (λ o. ordering_then o (slice_cmp nat_cmp xs ys) ≡ Less) (nat_cmp_is x y Less lt) refl
    | inr ge ↦ (let back = lead_less n (a * 256 + y) (a * 256 + x) ys xs (rest_bytes (y ∷ ys) others) (rest_bytes (x ∷ xs) small) (omega (arith, other)) in absurd (omega arith))
  ]
]

-- and those of the greater number behind
pub behind : (n a : ℕ) (xs ys : List ℕ) → AreBytes xs → AreBytes ys →
    lead_from n a ys < lead_from n a xs → slice_cmp nat_cmp xs ys ≡ Greater
behind n a xs ys small others less =
    (let laws = nat_list_cmp_total in laws.antisymm xs ys)
    ∙ ap ordering_reverse (before n a ys xs others small less)

-- one byte more on both sides
longer : (o : Ordering) (m n : ℕ) → MatchOrdering o (m < n) (m ≡ n) (n < m) →
    MatchOrdering o (suc m < suc n) (suc m ≡ suc n) (suc n < suc m)
longer Less m n is = omega (arith, is)
longer Equal m n is = omega (arith, is)
longer Greater m n is = omega (arith, is)

-- bytes of one number, few of which are on one side, are ordered as their counts are
pub by_count : (n a : ℕ) (xs ys : List ℕ) → AreBytes xs → AreBytes ys →
    lead_from n a xs ≡ lead_from n a ys → (length xs ≤ n) ⊎ (length ys ≤ n) →
    MatchOrdering (slice_cmp nat_cmp xs ys) (length xs < length ys) (length xs ≡ length ys)
    (length ys < length xs)
by_count n a [] [] small others same few = refl
by_count n a [] (y ∷ ys) small others same few = omega arith
by_count n a (x ∷ xs) [] small others same few = omega arith
by_count zero a (x ∷ xs) (y ∷ ys) small others same few =
    absurd (⊎_elim (λ l. let no : ⊥ = omega (arith, l) in no) (λ l. let no : ⊥ = omega (arith, l) in no) few)
by_count (suc n) a (x ∷ xs) (y ∷ ys) small others same few =
    let over = λ (l : x < y). lead_less n (a * 256 + x) (a * 256 + y) xs ys (rest_bytes (x ∷ xs) small)
    (rest_bytes (y ∷ ys) others) (omega (arith, l)) in
    let under = λ (l : y < x). lead_less n (a * 256 + y) (a * 256 + x) ys xs
    (rest_bytes (y ∷ ys) others) (rest_bytes (x ∷ xs) small) (omega (arith, l)) in
    elim (cases_eq x y) [
      | inl one ↦ (let rest = by_count n (a * 256 + x) xs ys (rest_bytes (x ∷ xs) small)
          (rest_bytes (y ∷ ys) others)
          (subst (λ z. lead_from n (a * 256 + x) xs ≡ lead_from n (a * 256 + z) ys) (sym one) same)
          (⊎_elim (λ l. inl (omega (arith, l))) (λ l. inr (omega (arith, l))) few) in
          subst (λ o. MatchOrdering (ordering_then o (slice_cmp nat_cmp xs ys))
          (length (x ∷ xs) < length (y ∷ ys)) (length (x ∷ xs) ≡ length (y ∷ ys))
          (length (y ∷ ys) < length (x ∷ xs))) (nat_cmp_is x y Equal one)
          (longer (slice_cmp nat_cmp xs ys) (length xs) (length ys) rest))
      | inr other ↦ elim (cases_lt x y) [
        | inl lt ↦ (let more = over lt in absurd (omega arith))
        | inr ge ↦ (let more = under (omega (arith, other)) in absurd (omega arith))
      ]
    ]

-- numbers that begin alike are ordered as what comes last
pub shifted : (o : Ordering) (a b m n : ℕ) → a ≡ b → MatchOrdering o (m < n) (m ≡ n) (n < m) →
    MatchOrdering o (a * 256 + m < b * 256 + n) (a * 256 + m ≡ b * 256 + n)
    (b * 256 + n < a * 256 + m)
shifted Less a b m n same is = omega (arith, same, is)
shifted Equal a b m n same is = omega (arith, same, is)
shifted Greater a b m n same is = omega (arith, same, is)

-- keys' bytes are ordered as their numbers are, unless both are long and begin alike
pub ordered : (xs ys : List ℕ) → AreBytes xs → AreBytes ys → length xs < 256 → length ys < 256 →
    (lead_from 14 0 xs ≡ lead_from 14 0 ys → (length xs ≤ 14) ⊎ (length ys ≤ 14)) →
    nat_cmp (number_of xs) (number_of ys) ≡ slice_cmp nat_cmp xs ys
unfolding number_of
ordered xs ys small others few less apart = elim (cases_eq (lead_from 14 0 xs) (lead_from 14 0 ys)) [
  | inl same ↦ (let counts = by_count 14 0 xs ys small others same (apart same) in
      sym (nat_cmp_is (number_of xs) (number_of ys) (slice_cmp nat_cmp xs ys)
      (shifted (slice_cmp nat_cmp xs ys) (lead_from 14 0 xs) (lead_from 14 0 ys) (length xs) (length ys) same counts)))
  | inr differ ↦ elim (cases_lt (lead_from 14 0 xs) (lead_from 14 0 ys)) [
    | inl lt ↦ sym (nat_cmp_is (number_of xs) (number_of ys) Less (omega (arith, lt)))
        ∙ sym (before 14 0 xs ys small others lt)
    | inr ge ↦ (let gt : lead_from 14 0 ys < lead_from 14 0 xs = omega (arith, ge, differ) in
        sym (nat_cmp_is (number_of xs) (number_of ys) Greater (omega (arith, gt)))
        ∙ sym (behind 14 0 xs ys small others gt))
  ]
]

-- ---- the front

-- the number by places
abbrev lead_at : ℕ → ℕ → ℕ → List ℕ → ℕ
lead_at zero place lead bytes = lead
lead_at (suc n) place lead bytes =
    lead_at n (place + 1) (lead * 256 + get_or bytes place 0) bytes

by_place : (n place lead : ℕ) (bytes : List ℕ) →
    lead_from n lead (drop place bytes) ≡ lead_at n place lead bytes
by_place zero place lead bytes = refl
by_place (suc n) place lead bytes =
    let head : get_or (drop place bytes) 0 0 ≡ get_or bytes place 0 =
    get_or-drop place bytes 0 0 ∙ ap (λ i. get_or bytes i 0) (omega arith) in
    (λ i. lead_from n (lead * 256 + head i) (drop-drop 1 place bytes i))
    ∙ by_place n (place + 1) (lead * 256 + get_or bytes place 0) bytes

-- the bytes in place make the number
pub number_is : (bytes : List ℕ) → lead_from 15 0 (front_of bytes) ≡ number_of bytes
unfolding number_of front_of
number_is bytes = let placed = by_place 14 0 0 bytes in omega (arith, placed)

-- so many of them are the bytes, whatever stands behind
pub fronted : (n place : ℕ) (bytes rest : List ℕ) → length bytes ≤ place + n →
    take (length bytes - place) (bytes_from n place bytes ++ rest) ≡ drop place bytes
fronted zero place bytes rest few =
    let none : length bytes - place ≡ 0 = omega arith in
    ap (λ c. take c rest) none ∙ sym (drop_all place bytes (omega arith))
fronted (suc n) place bytes rest few = elim (cases_lt place (length bytes)) [
  | inl lt ↦ (let count : length bytes - place ≡ suc (length bytes - (place + 1)) = omega (arith, lt) in
      ap (λ c. take c (bytes_from (suc n) place bytes ++ rest)) count
      ∙ ap (λ l. get_or bytes place 0 ∷ l) (fronted n (place + 1) bytes rest (omega (arith, few)))
      ∙ sym (drop_more bytes place 0 lt))
  | inr ge ↦ (let none : length bytes - place ≡ 0 = omega (arith, ge) in
      ap (λ c. take c (bytes_from (suc n) place bytes ++ rest)) none
      ∙ sym (drop_all place bytes ge))
]

-- short bytes lie in place
pub front_take : (bytes : List ℕ) → length bytes ≤ 14 →
    take (get_or (front_of bytes) 14 0) (front_of bytes) ≡ bytes
unfolding front_of
front_take bytes few =
    let all : length bytes ≡ length bytes - 0 = omega arith in
    ap (λ c. take c (bytes_from 14 0 bytes ++ length bytes ∷ [])) all
    ∙ fronted 14 0 bytes (length bytes ∷ []) (omega (arith, few))

-- as many bytes of one number are the same
pub same_bytes_of : (xs ys : List ℕ) → AreBytes xs → AreBytes ys → length xs ≡ 15 → length ys ≡ 15 →
    lead_from 15 0 xs ≡ lead_from 15 0 ys → bytes_eq xs ys ≡ true
same_bytes_of xs ys small others mine theirs same =
    let counts = by_count 15 0 xs ys small others same (inl (omega (arith, mine))) in
    sym (is_eq-slice_cmp xs ys)
    ∙ ap is_eq (nat_cmp_is (length xs) (length ys) (slice_cmp nat_cmp xs ys) counts
    ∙ sym (nat_cmp_is (length xs) (length ys) Equal (mine ∙ sym theirs)))
