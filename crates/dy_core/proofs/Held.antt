-- The holdings inside a world: their order, and the row that they give at each place.
use Rattle.std.proofs.Common.{◌≡◌, ℕ, Bool, true, false, cond, ◌&&◌, not, eqb, List, [], ◌∷◌, refl, sym, ap, ◌∙◌, ⊎_elim}
use Rattle.std.specs.declared.cmp.Ordering.{Ordering}
use Rattle.std.specs.declared.cmp.Ordering.TheVariants.{Less, Equal, Greater}
use Rattle.std.specs.Ordering.{nat_cmp, ordering_then, match_ordering}
use Rattle.std.specs.Cmp.{IsTotalOrder, then_total, on_total, nat_cmp_total}
use Rattle.std.specs.Cmp.Lexicographic.{slice_cmp}
use Rattle.std.specs.FinMap.{IsAntisymmetric, nat_cmp-IsAntisymmetric}
use Rattle.std.specs.List.{AllByRecursion, Contains}
use Rattle.std.specs.List.Sorted.{IsStrictlySortedBy}
use Rattle.std.proofs.lemmas.Bool.{cases_Bool, and_parts, and_from, cond-true, cond-false, true≢false, false≢true, eqb-true, eq-eqb}
use Rattle.std.proofs.lemmas.Cmp.{nat_list_cmp_total, tied_itself}
use Rattle.dy_dots.specs.Dots.{dot_cmp}
use Rattle.dy_siblings.specs.Siblings.{same_key}
use Rattle.dy_core.specs.Steps.{same_place}
use Rattle.dy_core.specs.inside.Meanings.{is_at, others, row_in}
use Rattle.dy_core.specs.Orders.{key_cmp, holding_cmp, ack_cmp, place_cmp, put}
use Rattle.dy_siblings.specs.declared.versions.Version.{Version}
use Rattle.dy_core.specs.declared.acks.Acked.{Acked}
use Rattle.dy_core.specs.declared.places.Place.{Place}
use Rattle.dy_core.specs.declared.holdings.Holding.{Holding}
use Rattle.dy_siblings.proofs.Members.{not_in_nil, in_head, in_tail, in_cases}
use Rattle.dy_dots.proofs.Sets.{dot_total, dot_antisymmetric}
use Rattle.dy_siblings.proofs.SameKeys.{same_key_is, same_key_self}

-- both parts of a tie
pub both_tie : (r s : Ordering) → ordering_then r s ≡ Equal → (r ≡ Equal) × (s ≡ Equal)
both_tie Less s e = cc
both_tie Equal s e = (refl, e)
both_tie Greater s e = cc

pub keys_tie : IsAntisymmetric key_cmp
keys_tie [] [] e = refl
keys_tie [] (y ∷ ys) e = cc
keys_tie (x ∷ xs) [] e = cc
keys_tie (x ∷ xs) (y ∷ ys) e =
    let parts = both_tie (nat_cmp x y) (slice_cmp nat_cmp xs ys) e in
    λ i. nat_cmp-IsAntisymmetric x y parts.0 i ∷ keys_tie xs ys parts.1 i

pub holding_cmp_total : IsTotalOrder holding_cmp
holding_cmp_total =
    then_total (on_total (λ (h : Holding). h.holder) nat_cmp_total)
    (then_total (on_total (λ (h : Holding). h.home) nat_cmp_total) (on_total (λ (h : Holding). h.row.key) nat_list_cmp_total))

pub ack_cmp_total : IsTotalOrder ack_cmp
ack_cmp_total =
    then_total (on_total (λ (a : Acked). a.key) nat_list_cmp_total)
    (then_total (on_total (λ (a : Acked). a.dot) dot_total) (on_total (λ (a : Acked). a.w) nat_cmp_total))

pub acks_tie : IsAntisymmetric ack_cmp
acks_tie a b e =
    let outer = both_tie (key_cmp a.key b.key) (ordering_then (dot_cmp a.dot b.dot) (nat_cmp a.w b.w)) e in
    let inner = both_tie (dot_cmp a.dot b.dot) (nat_cmp a.w b.w) outer.1 in
    let key_is = keys_tie a.key b.key outer.0 in
    let dot_is = dot_antisymmetric a.dot b.dot inner.0 in
    let w_is = nat_cmp-IsAntisymmetric a.w b.w inner.1 in
    λ i. record { key = key_is i; dot = dot_is i; w = w_is i }

pub place_cmp_total : IsTotalOrder place_cmp
place_cmp_total = then_total (on_total (λ (p : Place). p.home) nat_cmp_total) (on_total (λ (p : Place). p.holder) nat_cmp_total)

pub places_tie : IsAntisymmetric place_cmp
places_tie a b e =
    let parts = both_tie (nat_cmp a.home b.home) (nat_cmp a.holder b.holder) e in
    let home_is = nat_cmp-IsAntisymmetric a.home b.home parts.0 in
    let holder_is = nat_cmp-IsAntisymmetric a.holder b.holder parts.1 in
    λ i. record { home = home_is i; holder = holder_is i }

-- two holdings at one place
pub record IsSameSpot (a b : Holding) : Type 0 where
  pub holder_is : a.holder ≡ b.holder
  pub home_is : a.home ≡ b.home
  pub key_is : a.row.key ≡ b.row.key

pub spots_tie : (a b : Holding) → holding_cmp a b ≡ Equal → IsSameSpot a b
spots_tie a b e =
    let outer = both_tie (nat_cmp a.holder b.holder) (ordering_then (nat_cmp a.home b.home) (key_cmp a.row.key b.row.key)) e in
    let inner = both_tie (nat_cmp a.home b.home) (key_cmp a.row.key b.row.key) outer.1 in
    record {
      holder_is = nat_cmp-IsAntisymmetric a.holder b.holder outer.0;
      home_is = nat_cmp-IsAntisymmetric a.home b.home inner.0;
      key_is = keys_tie a.row.key b.row.key inner.1;
    }

pub tie_from_spots : (a b : Holding) → IsSameSpot a b → holding_cmp a b ≡ Equal
tie_from_spots a b s =
    (λ i. ordering_then (nat_cmp (s.holder_is i) b.holder) (ordering_then (nat_cmp (s.home_is i) b.home) (key_cmp (s.key_is i) b.row.key)))
    ∙ tied_itself holding_cmp_total b

-- at a place
pub record Spot (holder home : ℕ) (key : List ℕ) (h : Holding) : Type 0 where
  pub holder_is : h.holder ≡ holder
  pub home_is : h.home ≡ home
  pub key_is : h.row.key ≡ key

pub spot_from : (holder home : ℕ) (key : List ℕ) (h : Holding) → is_at holder home key h ≡ true → Spot holder home key h
spot_from holder home key h e =
    let outer = and_parts (eqb h.holder holder) (eqb h.home home && same_key h.row.key key) e in
    let inner = and_parts (eqb h.home home) (same_key h.row.key key) outer.1 in
    record { holder_is = eqb-true h.holder holder outer.0; home_is = eqb-true h.home home inner.0; key_is = same_key_is h.row.key key inner.1 }

pub at_from : (holder home : ℕ) (key : List ℕ) (h : Holding) → Spot holder home key h → is_at holder home key h ≡ true
at_from holder home key h s =
    and_from (eqb h.holder holder) (eqb h.home home && same_key h.row.key key) (eq-eqb h.holder holder s.holder_is)
    (and_from (eqb h.home home) (same_key h.row.key key) (eq-eqb h.home home s.home_is) (ap (λ k. same_key k key) s.key_is ∙ same_key_self key))

pub at_same : (holder home : ℕ) (key : List ℕ) (a b : Holding) → IsSameSpot a b → is_at holder home key a ≡ is_at holder home key b
at_same holder home key a b s = λ i. same_place holder home key (s.holder_is i) (s.home_is i) (s.key_is i)

same_spot : (holder home : ℕ) (key : List ℕ) (a b : Holding) → is_at holder home key a ≡ true → is_at holder home key b ≡ true → IsSameSpot a b
same_spot holder home key a b at_a at_b =
    let s = spot_from holder home key a at_a in
    let t = spot_from holder home key b at_b in
    record { holder_is = s.holder_is ∙ sym t.holder_is; home_is = s.home_is ∙ sym t.home_is; key_is = s.key_is ∙ sym t.key_is }

module _ (holder home : ℕ) (key : List ℕ) where
  abbrev here : Holding → Bool
  here h = is_at holder home key h

  pub row_in-put : (hs : List Holding) (h : Holding) → row_in (put holding_cmp hs h) holder home key ≡ cond (here h) h.row.versions (row_in hs holder home key)
  row_in-put [] h = refl
  row_in-put (y ∷ ys) h = go (holding_cmp h y) refl (row_in-put ys h)
    where
      turned : (a b : Bool) → a ≡ here h → b ≡ here y → (holding_cmp h y ≡ Greater) →
          cond b y.row.versions (cond a h.row.versions (row_in ys holder home key)) ≡ cond a h.row.versions (cond b y.row.versions (row_in ys holder home key))
      turned true true at_h at_y is = absurd (not_tied (sym is ∙ tie_from_spots h y (same_spot holder home key h y (sym at_h) (sym at_y))))
        where
          not_tied : Greater ≡ Equal → ⊥
          not_tied e = cc
      turned true false at_h at_y is = refl
      turned false true at_h at_y is = refl
      turned false false at_h at_y is = refl

      hidden : (a b : Bool) → a ≡ b → cond a h.row.versions (row_in ys holder home key) ≡ cond a h.row.versions (cond b y.row.versions (row_in ys holder home key))
      hidden true b e = refl
      hidden false true e = absurd (false≢true e)
      hidden false false e = refl

      go : (r : Ordering) → holding_cmp h y ≡ r → row_in (put holding_cmp ys h) holder home key ≡ cond (here h) h.row.versions (row_in ys holder home key) →
          row_in (match_ordering r (h ∷ y ∷ ys) (h ∷ ys) (y ∷ put holding_cmp ys h)) holder home key
          ≡ cond (here h) h.row.versions (cond (here y) y.row.versions (row_in ys holder home key))
      go Less is below = refl
      go Equal is below = hidden (here h) (here y) (at_same holder home key h y (spots_tie h y is))
      go Greater is below = ap (cond (here y) y.row.versions) below ∙ turned (here h) (here y) refl refl is

  -- of holdings in order, each is the one at its place
  pub row_in-of : (hs : List Holding) → IsStrictlySortedBy holding_cmp hs → (h : Holding) → Contains hs h → here h ≡ true →
      row_in hs holder home key ≡ h.row.versions
  unfolding IsStrictlySortedBy
  row_in-of [] sorted h inside at = absurd (not_in_nil h inside)
  row_in-of (y ∷ ys) sorted h inside at =
      ⊎_elim
      (λ same. cond-true (here y) y.row.versions (row_in ys holder home key) (ap here (sym same) ∙ at) ∙ ap (λ x. x.row.versions) (sym same))
      (λ later.
      ⊎_elim
      (λ at_y. absurd (apart ys sorted.0 later (tie_from_spots y h (same_spot holder home key y h at_y at))))
      (λ not_y. cond-false (here y) y.row.versions (row_in ys holder home key) not_y ∙ row_in-of ys sorted.1 h later at)
      (cases_Bool (here y)))
      (in_cases y h ys inside)
    where
      clash : Less ≡ Equal → ⊥
      clash e = cc

      apart : (zs : List Holding) → AllByRecursion (λ z. holding_cmp y z ≡ Less) zs → Contains zs h → holding_cmp y h ≡ Equal → ⊥
      apart [] all inside tie = not_in_nil h inside
      apart (z ∷ zs) all inside tie =
          ⊎_elim (λ same. clash (sym all.0 ∙ ap (holding_cmp y) (sym same) ∙ tie)) (λ l. apart zs all.1 l tie) (in_cases z h zs inside)

  -- a version in the row at a place is in a holding there
  pub row_in-from : (hs : List Holding) (v : Version) → Contains (row_in hs holder home key) v →
      (h : Holding) × Contains hs h × Spot holder home key h
  row_in-from [] v inside = absurd (not_in_nil v inside)
  row_in-from (y ∷ ys) v inside = go (here y) refl inside (row_in-from ys v)
    where
      go : (b : Bool) → here y ≡ b → Contains (cond b y.row.versions (row_in ys holder home key)) v →
          (Contains (row_in ys holder home key) v → (h : Holding) × Contains ys h × Spot holder home key h) →
          (h : Holding) × Contains (y ∷ ys) h × Spot holder home key h
      go true is inside below = (y, in_head y ys, spot_from holder home key y is)
      go false is inside below = let f = below inside in (f.0, in_tail y f.0 ys f.1, f.2)

pub row_in-others : (p o : ℕ) (k : List ℕ) (hs : List Holding) (holder home : ℕ) (key : List ℕ) (gone : Holding) → Spot p o k gone →
    row_in (others p o k hs) holder home key ≡ cond (is_at holder home key gone) [] (row_in hs holder home key)
row_in-others p o k [] holder home key gone spot = nothing (is_at holder home key gone)
  where
    nothing : (b : Bool) → row_in [] holder home key ≡ cond b (row_in [] holder home key) (row_in [] holder home key)
    nothing true = refl
    nothing false = refl
row_in-others p o k (y ∷ ys) holder home key gone spot =
    go (is_at p o k y) (is_at holder home key y) (is_at holder home key gone) refl refl refl (row_in-others p o k ys holder home key gone spot)
  where
    at_gone : is_at p o k gone ≡ true
    at_gone = at_from p o k gone spot

    go : (out at_y at : Bool) → is_at p o k y ≡ out → is_at holder home key y ≡ at_y → is_at holder home key gone ≡ at →
        row_in (others p o k ys) holder home key ≡ cond at [] (row_in ys holder home key) →
        row_in (cond (not out) (y ∷ others p o k ys) (others p o k ys)) holder home key
        ≡ cond at [] (cond (is_at holder home key y) y.row.versions (row_in ys holder home key))
    go true at_y true is_out is_y is_g below = below
    go true true false is_out is_y is_gone below =
        absurd (true≢false (sym is_y ∙ at_same holder home key y gone (same_spot p o k y gone is_out at_gone) ∙ is_gone))
    go true false false is_out is_y is_g below = below ∙ sym (cond-false (is_at holder home key y) y.row.versions (row_in ys holder home key) is_y)
    go false true true is_out is_y is_gone below =
        absurd (true≢false (sym at_gone ∙ sym (at_same p o k y gone (same_spot holder home key y gone is_y is_gone)) ∙ is_out))
    go false false true is_out is_y is_gone below =
        cond-false (is_at holder home key y) y.row.versions (row_in (others p o k ys) holder home key) is_y ∙ below
    go false at_y false is_out is_y is_gone below = ap (cond (is_at holder home key y) y.row.versions) below
