-- Versions in the order in which they were made: what a past says, and that the newest of some versions cover what all of them do.
use Rattle.std.proofs.Common.{◌≡◌, ℕ, Bool, true, false, ◌&&◌, not, List, [], ◌∷◌, sym, ap, ◌∙◌, subst, ⊎_elim}
use Rattle.std.specs.List.{Contains}
use Rattle.std.specs.FinSet as set
use Rattle.std.proofs.lemmas.Bool.{cases_Bool, or_right, and_parts, and_from, true≢false, not_from_false}
use Rattle.dy_dots.specs.Dots.{same_dot}
use Rattle.dy_siblings.specs.Versions.{in_history}
use Rattle.dy_siblings.specs.Siblings.{same_key, covers, is_past, has_dot, newest}
use Rattle.dy_core.specs.Logs.{Known}
use Rattle.dy_dots.specs.declared.dots.Dot.{Dot}
use Rattle.dy_siblings.specs.declared.versions.Version.{Version}
use Rattle.dy_siblings.proofs.Members.{Passes, not_in_nil, in_head, in_tail, in_cases, any_gives, any_from, none_from, filter_in}
use Rattle.dy_dots.proofs.SameDots.{same_dot_is, same_dot_self}
use Rattle.dy_siblings.proofs.SameKeys.{same_key_is, same_key_self}

-- the version is new to the older ones, and its past is made of them
pub record IsNew (older : List Version) (v : Version) : Type 0 where
  pub fresh : (u : Version) → Contains older u → u.key ≡ v.key → u.dot ≡ v.dot → ⊥
  pub past_known : (d : Dot) → set.contains v.past d ≡ true → Known older v d

-- each is new to those that were made before it
abbrev pub IsOrdered : List Version → Type 0
IsOrdered [] = Unit {0}
IsOrdered (v ∷ vs) = IsNew vs v × IsOrdered vs

known_later : (x v : Version) (vs : List Version) (d : Dot) → Known vs v d → Known (x ∷ vs) v d
known_later x v vs d k =
    record {
      version = k.version;
      in_list = in_tail x k.version vs k.in_list;
      key_is = k.key_is;
      dot_is = k.dot_is;
      history_in = k.history_in;
    }

-- each dot of a past is of a version of the key, whose history lies in that past
pub past_is_known : (vs : List Version) → IsOrdered vs → (v : Version) → Contains vs v → (d : Dot) → set.contains v.past d ≡ true → Known vs v d
past_is_known [] o v h d e = absurd (not_in_nil v h)
past_is_known (x ∷ vs) o v h d e =
    ⊎_elim
    (λ same. subst (λ y. set.contains y.past d ≡ true → Known (x ∷ vs) y d) (sym same) (λ f. known_later x x vs d (o.0.past_known d f)) e)
    (λ later. known_later x v vs d (past_is_known vs o.1 v later d e))
    (in_cases x v vs h)

-- key and dot tell versions apart
pub same_version : (vs : List Version) → IsOrdered vs → (u v : Version) → Contains vs u → Contains vs v → u.key ≡ v.key → u.dot ≡ v.dot → u ≡ v
same_version [] o u v hu hv k d = absurd (not_in_nil u hu)
same_version (x ∷ vs) o u v hu hv k d =
    ⊎_elim
    (λ u_is.
    ⊎_elim
    (λ v_is. u_is ∙ sym v_is)
    (λ v_later. absurd (o.0.fresh v v_later (sym k ∙ ap (λ y. y.key) u_is) (sym d ∙ ap (λ y. y.dot) u_is)))
    (in_cases x v vs hv))
    (λ u_later.
    ⊎_elim
    (λ v_is. absurd (o.0.fresh u u_later (k ∙ ap (λ y. y.key) v_is) (d ∙ ap (λ y. y.dot) v_is)))
    (λ v_later. same_version vs o.1 u v u_later v_later k d)
    (in_cases x v vs hv))
    (in_cases x u vs hu)

-- a version's past lacks its own dot
own_dot_not_past : (x : Version) (vs : List Version) → IsNew vs x → set.contains x.past x.dot ≡ true → ⊥
own_dot_not_past x vs new e = let k = new.past_known x.dot e in new.fresh k.version k.in_list k.key_is k.dot_is

-- of the versions of a key that pass a test, one whose dot is in the past of none of them
pub record Newest (t : Version → Bool) (vs : List Version) : Type 0 where
  pub version : Version
  pub in_list : Contains vs version
  pub passes : t version ≡ true
  pub in_no_past : (x : Version) → Contains vs x → t x ≡ true → set.contains x.past version.dot ≡ true → ⊥

pub newest_passing : (t : Version → Bool) (key : List ℕ) → ((x : Version) → t x ≡ true → x.key ≡ key) →
    (vs : List Version) → IsOrdered vs → (v : Version) → Contains vs v → t v ≡ true → Newest t vs
newest_passing t key one_key [] o v h e = absurd (not_in_nil v h)
newest_passing t key one_key (x ∷ vs) o v h e =
    ⊎_elim
    (λ yes.
    record {
      version = x;
      in_list = in_head x vs;
      passes = yes;
      in_no_past = λ y hy ty below.
          ⊎_elim
          (λ same. own_dot_not_past x vs o.0 (ap (λ z. set.contains z.past x.dot) (sym same) ∙ below))
          (λ later.
          let k = past_is_known vs o.1 y later x.dot below in
          o.0.fresh k.version k.in_list (k.key_is ∙ one_key y ty ∙ sym (one_key x yes)) k.dot_is)
          (in_cases x y vs hy);
    })
    (λ no.
    let later : Contains vs v = ⊎_elim (λ same. absurd (true≢false (sym e ∙ ap t same ∙ no))) (λ l. l) (in_cases x v vs h) in
    let rest = newest_passing t key one_key vs o.1 v later e in
    record {
      version = rest.version;
      in_list = in_tail x rest.version vs rest.in_list;
      passes = rest.passes;
      in_no_past = λ y hy ty below.
          ⊎_elim
          (λ same. true≢false (sym ty ∙ ap t same ∙ no))
          (λ l. rest.in_no_past y l ty below)
          (in_cases x y vs hy);
    })
    (cases_Bool (t x))

-- these are versions of the key that were made
abbrev pub AreOf : List Version → List ℕ → List Version → Type 0
AreOf all key vs = (v : Version) → Contains vs v → Contains all v × (v.key ≡ key)

-- whether the version is of the key, its dot is among those of vs, and it reaches back to d
abbrev reaches : List ℕ → List Version → Dot → Version → Bool
reaches key vs d x = same_key x.key key && (has_dot vs x.dot && in_history x d)

-- what some versions of a key cover, the newest of them cover
pub newest_covers : (all : List Version) → IsOrdered all → (key : List ℕ) (vs : List Version) → AreOf all key vs →
    (d : Dot) → covers vs d ≡ true → covers (newest vs) d ≡ true
newest_covers all o key vs of d c =
    any_from (λ v. in_history v d) (newest vs) top.version
    (filter_in (λ v. not (is_past vs v.dot)) vs top.version top_in (not_from_false (is_past vs top.version.dot) not_past))
    (test_parts top.version top.passes).2
  where
    test_parts : (x : Version) → reaches key vs d x ≡ true → (x.key ≡ key) × (has_dot vs x.dot ≡ true) × (in_history x d ≡ true)
    test_parts x e =
        let outer = and_parts (same_key x.key key) (has_dot vs x.dot && in_history x d) e in
        let inner = and_parts (has_dot vs x.dot) (in_history x d) outer.1 in
        (same_key_is x.key key outer.0, inner.0, inner.1)

    test_from : (x : Version) → Contains vs x → in_history x d ≡ true → reaches key vs d x ≡ true
    test_from x h e =
        and_from (same_key x.key key) (has_dot vs x.dot && in_history x d)
        (ap (λ k. same_key k key) (of x h).1 ∙ same_key_self key)
        (and_from (has_dot vs x.dot) (in_history x d) (any_from (λ v. same_dot v.dot x.dot) vs x h (same_dot_self x.dot)) e)

    found : Passes (λ v. in_history v d) vs
    found = any_gives (λ v. in_history v d) vs c

    top : Newest (reaches key vs d) all
    top = newest_passing (reaches key vs d) key (λ x e. (test_parts x e).0) all o found.item (of found.item found.in_list).0 (test_from found.item found.in_list found.passes)

    top_in : Contains vs top.version
    top_in =
        let with_dot = any_gives (λ v. same_dot v.dot top.version.dot) vs (test_parts top.version top.passes).1 in
        let made = of with_dot.item with_dot.in_list in
        subst (Contains vs)
        (same_version all o with_dot.item top.version made.0 top.in_list
        (made.1 ∙ sym (test_parts top.version top.passes).0) (same_dot_is with_dot.item.dot top.version.dot with_dot.passes))
        with_dot.in_list

    not_past : is_past vs top.version.dot ≡ false
    not_past = none_from (λ v. set.contains v.past top.version.dot) vs (λ x h below.
        let made = of x h in
        let k = past_is_known all o x made.0 top.version.dot below in
        let same = same_version all o k.version top.version k.in_list top.in_list
        (k.key_is ∙ made.1 ∙ sym (test_parts top.version top.passes).0) k.dot_is in
        let reached = k.history_in d (ap (λ y. in_history y d) same ∙ (test_parts top.version top.passes).2) in
        top.in_no_past x made.0 (test_from x h (or_right (same_dot x.dot d) (set.contains x.past d) reached)) below)
