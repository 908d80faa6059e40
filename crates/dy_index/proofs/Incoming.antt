-- The versions of an incoming row: whether they are issued.
use Rattle.std.proofs.Common.{◌≡◌, ℕ, zero, suc, ◌+◌, ◌<◌, ◌↔◌, Bool, false, ◌&&◌, IsTrue, List, []}
use Rattle.std.proofs.Common.{◌∷◌, length, get_or, take, ◌⊎◌, inl, inr}
use Rattle.std.proofs.Common.{sym, ◌∙◌, subst, ⊎_elim, arith}
use Rattle.std.specs.List.{All, Contains}
use Rattle.std.proofs.lemmas.Bool.{true≢false, and_from, cases_lt}
use Rattle.std.proofs.lemmas.List.{take_more}
use Rattle.std.proofs.lemmas.List.Elements.{All-contains, Contains-append_cases}
use Rattle.dy_core.proofs.Keeping.{all_from}
use Rattle.dy_dots.specs.Dots.{IsDotBefore, same_dot}
use Rattle.dy_dots.specs.declared.dots.Dot.{Dot}
use Rattle.dy_siblings.specs.Siblings.{Rise, same_key}
use Rattle.dy_siblings.specs.declared.versions.Version.{Version}
use Rattle.dy_siblings.proofs.Rising.{before_trans, before_not_self, tail_rises, after_all}
use Rattle.dy_core.specs.Worlds.{World, AreMadeOf, is_issued}
use Rattle.dy_siblings.proofs.Members.{not_in_nil, in_head, in_tail, in_cases, any_from}
use Rattle.dy_dots.proofs.SameDots.{same_dot_self}
use Rattle.dy_siblings.proofs.SameKeys.{same_key_self}
use Rattle.dy_core.proofs.Ordered.{IsOrdered, same_version}
use Rattle.dy_index.specs.Readings.{IsLeastNotIssued}

-- the issued version of a dot, compared with one that came
pub compared_is : (vs : List Version) → IsOrdered vs →
    (b : Bool) (u v : Version) → Contains vs u → u.key ≡ v.key → u.dot ≡ v.dot →
    (IsTrue b ↔ (u ≡ v)) → IsTrue b ↔ Contains vs v
compared_is vs ordered b u v made key_is dot_is same = (
  (λ yes. subst (Contains vs) (same.0 yes) made),
  (λ inside. same.1 (same_version vs ordered u v made inside key_is dot_is)),
)

pub none_issued : (vs : List Version) (v : Version) → is_issued vs v.key v.dot ≡ false →
    IsTrue false ↔ Contains vs v
none_issued vs v none = (
  (λ yes. absurd (true≢false (sym yes))),
  (λ inside. absurd (true≢false
      (sym (any_from (λ u. same_key u.key v.key && same_dot u.dot v.dot) vs v inside
      (and_from (same_key v.key v.key) (same_dot v.dot v.dot) (same_key_self v.key)
      (same_dot_self v.dot))) ∙ none))),
)

-- whose dot comes before that at a place comes before the place
earlier_in : (vs : List Version) → Rise vs →
    (i : ℕ) (u : Version) → i < length vs → u ≡ get_or vs i u →
    (v : Version) → Contains vs v → IsDotBefore v.dot u.dot → Contains (take i vs) v
earlier_in [] rise i u lt is v inside before = absurd (not_in_nil v inside)
earlier_in (x ∷ xs) rise zero u lt is v inside before =
    let at : IsDotBefore v.dot x.dot = subst (λ y. IsDotBefore v.dot y.dot) is before in
    absurd (⊎_elim
    (λ same. before_not_self x.dot (subst (λ y. IsDotBefore y.dot x.dot) same at))
    (λ later. before_not_self x.dot
    (before_trans x.dot v.dot x.dot (after_all x.dot xs rise v later) at))
    (in_cases x v xs inside))
earlier_in (x ∷ xs) rise (suc i) u lt is v inside before =
    ⊎_elim
    (λ same. subst (Contains (x ∷ take i xs)) (sym same) (in_head x (take i xs)))
    (λ later. in_tail x v (take i xs)
    (earlier_in xs (tail_rises x xs rise) i u (omega (arith, lt)) is v later before))
    (in_cases x v xs inside)

pub least_is : (issued vs : List Version) (key : List ℕ) → Rise vs →
    (i : ℕ) (u : Version) → i < length vs → u ≡ get_or vs i u →
    All (λ v. (v.key ≡ key) × Contains issued v) (take i vs) → (Contains issued u → ⊥) →
    (d : Dot) → d ≡ u.dot → IsLeastNotIssued issued vs d
least_is issued vs key rise i u lt is before not_issued d dot_is =
    record {
      version = u;
      in_row = (i, lt, sym is);
      dot_is = sym dot_is;
      not_issued = not_issued;
      least = λ v inside earlier.
          (All-contains (λ x. (x.key ≡ key) × Contains issued x) (take i vs) v before
          (earlier_in vs rise i u lt is v inside (subst (IsDotBefore v.dot) dot_is earlier))).1;
    }

-- a version more is issued
pub issued_more : (P : Version → Type 0) (vs : List Version) (i : ℕ) (u : Version) → i < length vs →
    u ≡ get_or vs i u → All P (take i vs) → P u → All P (take (i + 1) vs)
issued_more P vs i u lt is before this =
    all_from P (take (i + 1) vs) (λ y inside.
    ⊎_elim
    (λ l. All-contains P (take i vs) y before l)
    (λ r. ⊎_elim (λ same. subst P (is ∙ sym same) this) (λ none. absurd (not_in_nil y none))
    (in_cases (get_or vs i u) y [] r))
    (Contains-append_cases (take i vs) (get_or vs i u ∷ []) y
    (subst (λ xs. Contains xs y) (take_more vs i u lt) inside)))

dots_in_order : (d e : Dot) → IsDotBefore d e ⊎ ((d ≡ e) ⊎ IsDotBefore e d)
dots_in_order d e = ⊎_elim (λ lt. inl (inl lt))
    (λ ge. ⊎_elim (λ gt. inr (inr (inl gt))) (λ le. same_node (omega (arith, ge, le)))
    (cases_lt e.node d.node)) (cases_lt d.node e.node)
  where
    same_node : d.node ≡ e.node → IsDotBefore d e ⊎ ((d ≡ e) ⊎ IsDotBefore e d)
    same_node same =
        ⊎_elim (λ lt. inl (inr (same, lt)))
        (λ ge. ⊎_elim (λ gt. inr (inr (inr (sym same, gt))))
        (λ le. let c : d.counter ≡ e.counter = omega (arith, ge, le) in
        inr (inl (λ i. record { node = same i; counter = c i })))
        (cases_lt e.counter d.counter))
        (cases_lt d.counter e.counter)

-- there is one least at most
pub one_least : (issued row : List Version) (d e : Dot) → IsLeastNotIssued issued row d →
    IsLeastNotIssued issued row e → d ≡ e
one_least issued row d e a b =
    ⊎_elim (λ lt. absurd
    (a.not_issued (b.least a.version a.in_row
    (subst (λ x. IsDotBefore x e) (sym a.dot_is) lt))))
    (λ rest. ⊎_elim (λ same. same)
    (λ gt. absurd (b.not_issued
    (a.least b.version b.in_row (subst (λ x. IsDotBefore x d) (sym b.dot_is) gt)))) rest)
    (dots_in_order d e)

-- where each is issued, there is none
pub none_least : (w : World) (key : List ℕ) (row : List Version) (d : Dot) → AreMadeOf w key row →
    IsLeastNotIssued w.versions row d → ⊥
none_least w key row d made a =
    a.not_issued (All-contains (λ v. (v.key ≡ key) × Contains w.versions v) row a.version made
    a.in_row).1
