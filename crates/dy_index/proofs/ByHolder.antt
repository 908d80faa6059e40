-- What is held is put into a list for each holder, and the lists, each in order, are joined.
use Rattle.std.proofs.Common.{◌≡◌, ◌↔◌, ℕ, zero, suc, ◌+◌, ◌<◌, ◌≤◌, false, cond, eqb}
use Rattle.std.proofs.Common.{ltb, List, [], ◌∷◌, ◌++◌, length, set, refl, sym, ap, ◌∙◌, subst, inl}
use Rattle.std.proofs.Common.{inr, ⊎_elim, arith}
use Rattle.std.specs.List.{AllByRecursion, Contains}
use Rattle.std.specs.List.Sorted.{IsStrictlySortedBy}
use Rattle.std.specs.Ordering.{nat_cmp, ordering_then}
use Rattle.std.specs.declared.cmp.Ordering.{Ordering}
use Rattle.std.specs.declared.cmp.Ordering.TheVariants.{Less, Equal, Greater}
use Rattle.std.proofs.lemmas.Bool.{cases_Bool, cases_lt, cond-true, eqb-true, eq-eqb, ltb-true, lt-ltb}
use Rattle.std.proofs.lemmas.Bool.{true≢false}
use Rattle.std.proofs.lemmas.List.{get_or-set_other, get_or-set_same, length-set}
use Rattle.std.proofs.lemmas.List.Elements.{Contains-append_cases, Contains-append_left}
use Rattle.std.proofs.lemmas.List.Elements.{Contains-append_right, Contains-push, Contains-push_cases}
use Rattle.dy_dots.specs.declared.nodes.TheConstants.{MAX_NODES}
use Rattle.dy_siblings.proofs.Members.{not_in_nil, in_head, in_tail, in_cases, filter_in, filter_from}
use Rattle.dy_core.specs.Orders.{holding_cmp, key_cmp}
use Rattle.dy_core.specs.declared.holdings.Holding.{Holding}
use Rattle.dy_index.specs.Lists.{IsInOrder}
use Rattle.dy_index.specs.inside.Holders.{AreByHolder, AreFilled, held_below, list_of}

-- ---- a list for each holder

pub fill_begins : (hs : List Holding) (lists : List (List Holding)) → length lists ≡ MAX_NODES →
    ((n : ℕ) → list_of lists n ≡ []) → AreFilled hs hs lists
fill_begins hs lists many none =
    record {
      many = many;
      within = λ h there. there;
      own = λ n h there. absurd (not_in_nil h (subst (λ l. Contains l h) (none n) there));
      every = λ h there. inl there;
    }

-- one more is put into the list of its holder
module _ (hs rest : List Holding) (lists : List (List Holding)) (x : Holding)
    (filled : AreFilled hs (x ∷ rest) lists) (few : x.holder < length lists) where
  abbrev longer : List Holding
  longer = list_of lists x.holder ++ x ∷ []

  abbrev grown : List (List Holding)
  grown = set lists x.holder longer

  grown_at : (n : ℕ) → n ≡ x.holder → list_of grown n ≡ longer
  grown_at n is = ap (list_of grown) is ∙ get_or-set_same lists x.holder longer [] few

  grown_else : (n : ℕ) → eqb n x.holder ≡ false → list_of grown n ≡ list_of lists n
  grown_else n apart = get_or-set_other lists x.holder n longer []
      (λ same. true≢false (sym (eq-eqb n x.holder same) ∙ apart))

  stays : (n : ℕ) (h : Holding) → Contains (list_of lists n) h → Contains (list_of grown n) h
  stays n h there =
      ⊎_elim
      (λ yes.
      let same = eqb-true n x.holder yes in
      subst (λ l. Contains l h) (sym (grown_at n same))
      (Contains-append_left (list_of lists x.holder) (x ∷ []) h
      (subst (λ m. Contains (list_of lists m) h) same there)))
      (λ no. subst (λ l. Contains l h) (sym (grown_else n no)) there)
      (cases_Bool (eqb n x.holder))

  pub fill_goes : AreFilled hs rest grown
  fill_goes =
      record {
        many = length-set lists x.holder longer ∙ filled.many;
        within = λ h there. filled.within h (in_tail x h rest there);
        own = λ n h there.
            ⊎_elim
            (λ yes.
            let same = eqb-true n x.holder yes in
            ⊎_elim
            (λ before. let f = filled.own x.holder h before in (f.0, f.1 ∙ sym same))
            (λ last. (
              subst (Contains hs) last (filled.within x (in_head x rest)),
              ap (λ y. y.holder) (sym last) ∙ sym same,
            ))
            (Contains-push_cases (list_of lists x.holder) x h
            (subst (λ l. Contains l h) (grown_at n same) there)))
            (λ no. filled.own n h (subst (λ l. Contains l h) (grown_else n no) there))
            (cases_Bool (eqb n x.holder));
        every = λ h there.
            ⊎_elim
            (λ later.
            ⊎_elim
            (λ same. inr (subst (λ l. Contains l h) (sym (grown_at h.holder
            (ap (λ y. y.holder) same)))
            (subst (Contains longer) (sym same) (Contains-push (list_of lists x.holder) x))))
            (λ after. inl after)
            (in_cases x h rest later))
            (λ put. inr (stays h.holder h put))
            (filled.every h there);
      }

list_of-past : (lists : List (List Holding)) (n : ℕ) → length lists ≤ n → list_of lists n ≡ []
list_of-past [] n past = refl
list_of-past (l ∷ ls) zero past = absurd (omega (arith, past))
list_of-past (l ∷ ls) (suc n) past = list_of-past ls n (omega (arith, past))

has_list : (lists : List (List Holding)) (n : ℕ) (h : Holding) → Contains (list_of lists n) h →
    n < length lists
has_list lists n h there =
    ⊎_elim (λ lt. lt)
    (λ past. absurd (not_in_nil h (subst (λ l. Contains l h) (list_of-past lists n past) there)))
    (cases_lt n (length lists))

lists_from : (n : ℕ) (hs : List Holding) (lists : List (List Holding)) →
    ((i : ℕ) (h : Holding) →
    Contains (list_of lists i) h ↔ (Contains hs h × (h.holder ≡ i + n))) →
    ((h : Holding) → Contains hs h → h.holder < length lists + n) → AreByHolder n hs lists
lists_from n hs [] each few = λ h there. omega (arith, few h there)
lists_from n hs (l ∷ ls) each few = (
  (λ h. (
    (λ there. let f = (each 0 h).0 there in (f.0, omega (arith, f.1))),
    (λ own. (each 0 h).1 (own.0, omega (arith, own.1))),
  )),
  lists_from (n + 1) hs ls
      (λ i h. (
        (λ there. let f = (each (suc i) h).0 there in (f.0, omega (arith, f.1))),
        (λ own. (each (suc i) h).1 (own.0, omega (arith, own.1))),
      ))
      (λ h there. let lt = few h there in omega (arith, lt)),
)

pub fill_ends : (hs : List Holding) (lists : List (List Holding)) → AreFilled hs [] lists →
    AreByHolder 0 hs lists
fill_ends hs lists filled =
    lists_from 0 hs lists
    (λ i h. (
      (λ there. let f = filled.own i h there in (f.0, omega (arith, f.1))),
      (λ own.
          let same : h.holder ≡ i = omega (arith, own.1) in
          subst (λ m. Contains (list_of lists m) h) same (placed h own.0)),
    ))
    (λ h there. let lt = has_list lists h.holder h (placed h there) in omega (arith, lt))
  where
    placed : (h : Holding) → Contains hs h → Contains (list_of lists h.holder) h
    placed h there = ⊎_elim (λ none. absurd (not_in_nil h none)) (λ put. put)
        (filled.every h there)

-- ---- the lists, one behind another

below_in : (n : ℕ) (hs : List Holding) (h : Holding) → Contains hs h → h.holder < n →
    Contains (held_below n hs) h
below_in n hs h there lt = filter_in (λ x. ltb x.holder n) hs h there (lt-ltb h.holder n lt)

below_from : (n : ℕ) (hs : List Holding) (h : Holding) → Contains (held_below n hs) h →
    Contains hs h × (h.holder < n)
below_from n hs h there =
    let f = filter_from (λ (x : Holding). ltb x.holder n) hs h there in
    (f.0, ltb-true h.holder n f.1)

less_is : (m n : ℕ) → m < n → nat_cmp m n ≡ Less
less_is m n lt = cond-true (ltb m n) Less (cond (eqb m n) Equal Greater) (lt-ltb m n lt)

comes_before : (a b : Holding) → a.holder < b.holder → holding_cmp a b ≡ Less
comes_before a b lt =
    ap (λ o. ordering_then o
    (ordering_then (nat_cmp a.home b.home) (key_cmp a.row.key b.row.key)))
    (less_is a.holder b.holder lt)

module _ {X : Type 0} where
  each_by : (P : X → Type 0) (b : List X) → ((y : X) → Contains b y → P y) → AllByRecursion P b
  each_by P [] each = tt
  each_by P (y ∷ b) each =
      (each y (in_head y b), each_by P b (λ z there. each z (in_tail y z b there)))

  both_by : (P : X → Type 0) (a b : List X) → AllByRecursion P a →
      ((y : X) → Contains b y → P y) → AllByRecursion P (a ++ b)
  both_by P [] b all each = each_by P b each
  both_by P (x ∷ a) b all each = (all.0, both_by P a b all.1 each)

  sorted_join : (c : X → X → Ordering) (a b : List X) → IsStrictlySortedBy c a →
      IsStrictlySortedBy c b → ((x y : X) → Contains a x → Contains b y → c x y ≡ Less) →
      IsStrictlySortedBy c (a ++ b)
  unfolding IsStrictlySortedBy
  sorted_join c [] b up_a up_b apart = up_b
  sorted_join c (x ∷ a) b up_a up_b apart = (
    both_by (λ y. c x y ≡ Less) a b up_a.0 (λ y there. apart x y (in_head x a) there),
    sorted_join c a b up_a.1 up_b (λ z y in_a in_b. apart z y (in_tail x z a in_a) in_b),
  )

sorted_none : IsStrictlySortedBy holding_cmp []
unfolding IsStrictlySortedBy
sorted_none = tt

pub join_begins : (hs : List Holding) → IsInOrder holding_cmp (held_below 0 hs) []
join_begins hs =
    record {
      in_order = sorted_none;
      is_item = λ h there. absurd (not_in_nil h there);
      tied = λ h there. let f = below_from 0 hs h there in absurd (omega (arith, f.1));
    }

-- the next list is put behind the others
pub join_goes : (n : ℕ) (hs l a b : List Holding) →
    ((h : Holding) → Contains l h ↔ (Contains hs h × (h.holder ≡ n))) →
    IsInOrder holding_cmp (held_below n hs) a → IsInOrder holding_cmp l b →
    IsInOrder holding_cmp (held_below (n + 1) hs) (a ++ b)
join_goes n hs l a b own first next =
    record {
      in_order =
          sorted_join holding_cmp a b first.in_order next.in_order (λ x y in_a in_b.
          let low = below_from n hs x (first.is_item x in_a) in
          let here = (own y).0 (next.is_item y in_b) in
          comes_before x y (omega (arith, low.1, here.1)));
      is_item = λ h there.
          ⊎_elim
          (λ in_a.
          let f = below_from n hs h (first.is_item h in_a) in
          below_in (n + 1) hs h f.0 (omega (arith, f.1)))
          (λ in_b.
          let f = (own h).0 (next.is_item h in_b) in
          below_in (n + 1) hs h f.0 (omega (arith, f.1)))
          (Contains-append_cases a b h there);
      tied = λ h there.
          let f = below_from (n + 1) hs h there in
          ⊎_elim
          (λ lt.
          let t = first.tied h (below_in n hs h f.0 lt) in
          (t.0, Contains-append_left a b t.0 t.1, t.2))
          (λ ge.
          let e : h.holder ≡ n = omega (arith, f.1, ge) in
          let t = next.tied h ((own h).1 (f.0, e)) in
          (t.0, Contains-append_right a b t.0 t.1, t.2))
          (cases_lt h.holder n);
    }

pub join_ends : (n : ℕ) (hs all : List Holding) → AreByHolder n hs [] →
    IsInOrder holding_cmp (held_below n hs) all → IsInOrder holding_cmp hs all
join_ends n hs all few order =
    record {
      in_order = order.in_order;
      is_item = λ h there. (below_from n hs h (order.is_item h there)).0;
      tied = λ h there. order.tied h (below_in n hs h there (few h there));
    }
