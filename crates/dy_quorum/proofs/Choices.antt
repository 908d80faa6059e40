-- Counting the homes of receipts.
use Rattle.std.proofs.Common.{◌≡◌, ◌++◌, ◌∷◌, [], ◌<◌, ◌≤◌, List, ℕ, true, false}
use Rattle.std.proofs.Common.{length, map, take, get_or, nat_eq, refl, sym, ◌∙◌, ap, subst, arith}
use Rattle.std.proofs.Common.{inl, inr, ⊎_elim}
use Rattle.std.proofs.lemmas.Bool.{cases_Bool, eqb-true}
use Rattle.std.proofs.lemmas.List.{get_or-take, get_or-map, length-map, length-take-le}
use Rattle.std.proofs.lemmas.List.Elements.{All-contains, Contains-append_cases}
use Rattle.std.proofs.lemmas.List.Quantifiers.{all_pairs_push}
use Rattle.std.proofs.lemmas.Map.Made.{length-le_from_is_member}
use Rattle.std.proofs.lemmas.Map.Views.{Contains-from_any, list_any-from_Contains}
use Rattle.std.specs.Cmp.{nat_eq_equiv}
use Rattle.std.specs.List.{All, AllPairs, Contains, list_any, IsDistinct}
use Rattle.dy_shares.specs.Shares.{ReceiptParts}
use Rattle.dy_siblings.proofs.Members.{not_in_nil, in_cases}
use Rattle.dy_quorum.specs.Tallies.{Agrees, DoAgree, FitsAll, IsChoice, CanChoose}
use Rattle.dy_quorum.specs.inside.Counting.{HoldersDiffer, receipt_homes, firsts, IsCount}
use Rattle.dy_quorum.proofs.Firsts.{home_in, distinct_by, differ_by, apart_at, are_push}
use Rattle.dy_quorum.proofs.Firsts.{firsts_same, firsts_more}

agree_home : (rs : List ReceiptParts) (f x : ReceiptParts) → FitsAll rs x → Contains rs f → f.holder ≡ x.holder → f.home ≡ x.home
agree_home rs f x fits c same = let P : ReceiptParts → Type 0 = λ r. Agrees r x in let a : Agrees f x = subst P c.2 (fits c.0 f c.1) in a.2 same

holder_apart : (rs fs : List ReceiptParts) (x : ReceiptParts) → IsCount rs fs → FitsAll rs x → home_in (receipt_homes fs) x.home ≡ false → (k : ℕ) (d : ReceiptParts) → k < length fs → HoldersDiffer (get_or fs k d) x
holder_apart rs fs x i fits lacks k d l same =
    let a = i.firsts_are in
    apart_at (λ (r : ReceiptParts). r.home) fs x lacks k d l (agree_home rs (get_or fs k d) x fits (a.among k d l) same)

pub count_push : (rs : List ReceiptParts) (x : ReceiptParts) → IsCount rs (firsts rs) → FitsAll rs x → IsCount (rs ++ x ∷ []) (firsts (rs ++ x ∷ []))
count_push rs x i fits = record {
  firsts_are = are_push (λ (r : ReceiptParts). r.home) rs x i.firsts_are;
  holders = elim (cases_Bool (home_in (receipt_homes (firsts rs)) x.home)) [
    | inl has ↦ subst (AllPairs HoldersDiffer) (sym (firsts_same (λ (r : ReceiptParts). r.home) rs x has)) i.holders
    | inr lacks ↦ subst (AllPairs HoldersDiffer) (sym (firsts_more (λ (r : ReceiptParts). r.home) rs x lacks))
        (all_pairs_push HoldersDiffer (firsts rs) x i.holders (holder_apart rs (firsts rs) x i fits lacks))
  ];
}

-- one holder has one home, so distinct homes have distinct holders
pub holders_distinct : (rs c : List ReceiptParts) → DoAgree rs → All (λ x. Contains rs x) c → IsDistinct nat_eq (map (λ r. r.home) c) → IsDistinct nat_eq (map (λ r. r.holder) c)
holders_distinct rs c agree among homes =
    let apart = differ_by (λ r. r.home) c homes in
    distinct_by (λ r. r.holder) c (λ i j d before inside same.
    apart i j d before inside ((agree _ _ (among i d (omega (arith, before, inside))) (among j d inside)).2 same))

-- any two still agree with one more that agrees with each
pub agree_more : (rs : List ReceiptParts) (x : ReceiptParts) → DoAgree rs → FitsAll rs x → DoAgree (rs ++ x ∷ [])
agree_more rs x agree fits a b in_a in_b = ⊎_elim
    (λ l. ⊎_elim (λ m. agree a b l m) (λ m. subst (Agrees a) (sym (only x b m)) (fitting a l)) (Contains-append_cases rs (x ∷ []) b in_b))
    (λ l. ⊎_elim (λ m. subst (λ y. Agrees y b) (sym (only x a l)) (back b (fitting b m))) (λ m. subst (λ y. Agrees y b) (sym (only x a l)) (subst (Agrees x) (sym (only x b m)) (refl, refl, λ e. refl))) (Contains-append_cases rs (x ∷ []) b in_b))
    (Contains-append_cases rs (x ∷ []) a in_a)
  where
    only : (x y : ReceiptParts) → Contains (x ∷ []) y → y ≡ x
    only x y inside = ⊎_elim (λ same. same) (λ none. absurd (not_in_nil y none)) (in_cases x y [] inside)

    fitting : (y : ReceiptParts) → Contains rs y → Agrees y x
    fitting y inside = All-contains (λ r. Agrees r x) rs y fits inside

    back : (y : ReceiptParts) → Agrees y x → Agrees x y
    back y a = (sym a.0, sym a.1, λ e. sym (a.2 (sym e)))

-- what is among receipts that agree agrees
pub agree_among : (rs c : List ReceiptParts) → DoAgree rs → All (λ x. Contains rs x) c → DoAgree c
agree_among rs c agree among a b in_a in_b =
    agree a b (All-contains (λ x. Contains rs x) c a among in_a) (All-contains (λ x. Contains rs x) c b among in_b)

homes_within : (rs fs c : List ReceiptParts) → IsCount rs fs → All (λ x. Contains rs x) c → (q : ℕ) → list_any (nat_eq q) (receipt_homes c) ≡ true → list_any (nat_eq q) (receipt_homes fs) ≡ true
homes_within rs fs c i among q e =
    let firsts_are = i.firsts_are in
    let h : Contains (receipt_homes c) q = Contains-from_any eqb-true q (receipt_homes c) e in
    let n : length (receipt_homes c) ≡ length c = length-map c (λ (r : ReceiptParts). r.home) in
    let z : ReceiptParts = record { key = []; dot = record { node = 0; counter = 0 }; holder = 0; home = 0 } in
    let lt : h.0 < length c = (let m = h.1 in omega arith) in
    let x : ReceiptParts = get_or c h.0 z in
    let is : x.home ≡ q = sym (get_or-map (λ (r : ReceiptParts). r.home) c h.0 z q lt) ∙ h.2 in
    let in_rs : Contains rs x = among h.0 z lt in
    let P : ReceiptParts → Type 0 = λ y. Contains (receipt_homes fs) y.home in
    let found : Contains (receipt_homes fs) x.home = subst P in_rs.2 (firsts_are.cover in_rs.0 x in_rs.1) in
    let Q : ℕ → Type 0 = λ y. Contains (receipt_homes fs) y in
    list_any-from_Contains nat_eq_equiv q (receipt_homes fs) (subst Q is found)

-- no more homes can be chosen than there are
choice_small : (w : ℕ) (rs fs c : List ReceiptParts) → IsCount rs fs → IsChoice w rs c → w ≤ length fs
choice_small w rs fs c i h =
    let distinct : IsDistinct nat_eq (receipt_homes c) = h.homes in
    let le : length (receipt_homes c) ≤ length (receipt_homes fs) = length-le_from_is_member nat_eq_equiv (receipt_homes c) (receipt_homes fs) distinct (homes_within rs fs c i h.among) in
    let n = h.count in
    omega (arith, length-map c (λ (r : ReceiptParts). r.home), length-map fs (λ (r : ReceiptParts). r.home))

-- the first receipts of w homes are a choice
choice_first : (w : ℕ) (rs fs : List ReceiptParts) → IsCount rs fs → w ≤ length fs → IsChoice w rs (take w fs)
choice_first w rs fs i le = let firsts_are = i.firsts_are in let lt : length (take w fs) ≡ w = length-take-le w fs le in record {
  count = lt;
  among = λ k d l. rw (get_or-take w fs k d (omega arith)) (firsts_are.among k d (omega arith));
  homes = distinct_by (λ r. r.home) (take w fs) (λ m n d l k. rw (get_or-take w fs m d (omega arith), get_or-take w fs n d (omega arith)) (firsts_are.homes m n d l (omega arith)));
  holders = distinct_by (λ r. r.holder) (take w fs) (λ m n d l k. rw (get_or-take w fs m d (omega arith), get_or-take w fs n d (omega arith)) (i.holders m n d l (omega arith)));
}

pub choice_ready : (w : ℕ) (rs fs : List ReceiptParts) (hs : List ℕ) → IsCount rs fs → hs ≡ receipt_homes fs → w ≤ length hs → CanChoose w rs
choice_ready w rs fs hs i e le = let l : length hs ≡ length fs = ap length e ∙ length-map fs (λ (r : ReceiptParts). r.home) in
    (take w fs, choice_first w rs fs i (omega arith))

pub choice_lacks : (w : ℕ) (rs fs : List ReceiptParts) (hs : List ℕ) → IsCount rs fs → hs ≡ receipt_homes fs → length hs < w → CanChoose w rs → ⊥
choice_lacks w rs fs hs i e lt c = let l : length hs ≡ length fs = ap length e ∙ length-map fs (λ (r : ReceiptParts). r.home) in
    let le : w ≤ length fs = choice_small w rs fs c.0 i c.1 in omega arith

pub choice_taken : (w : ℕ) (rs fs : List ReceiptParts) → IsCount rs fs → CanChoose w rs → IsChoice w rs (take w fs)
choice_taken w rs fs i c = choice_first w rs fs i (choice_small w rs fs c.0 i c.1)
