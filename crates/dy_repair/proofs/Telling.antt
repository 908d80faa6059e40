-- The test tells a stale answer: rows that pass as current are one, key and versions.
use Rattle.std.proofs.Common.{◌≡◌, ◌↔◌, ◌∷◌, [], ◌==◌, not, List, ℕ, Bool, true, ap, sym, ◌∙◌, refl}
use Rattle.std.proofs.Common.{inl, inr, IsTrue}
use Rattle.std.proofs.lemmas.Bool.{and_parts, and_from, cases_Bool, eq-eqb, eqb-true}
use Rattle.std.proofs.lemmas.Bool.{not_from_false, not-true, true≢false}
use Rattle.std.specs.Cmp.Lexicographic.{pointwise}
use Rattle.dy_siblings.specs.Siblings.{Siblings, same_key}
use Rattle.dy_siblings.specs.Versions.{VersionParts}
use Rattle.dy_siblings.specs.inside.Conflicts.{same_version}
use Rattle.dy_siblings.proofs.Agreeing.{same_version_is, same_version_from}
use Rattle.dy_siblings.proofs.SameKeys.{same_key_is, same_key_self}
use Rattle.dy_core.specs.Logs.{Answer}
use Rattle.dy_repair.specs.Stales.{IsStale}
use Rattle.dy_repair.specs.inside.Telling.{is_current, tells_stale}

same_all_is : (us vs : List VersionParts) → pointwise same_version us vs ≡ true → us ≡ vs
same_all_is [] [] e = refl
same_all_is [] (v ∷ vs) e = absurd (cc)
same_all_is (u ∷ us) [] e = absurd (cc)
same_all_is (u ∷ us) (v ∷ vs) e =
    let parts = and_parts (same_version u v) (pointwise same_version us vs) e in
    let first : u ≡ v = same_version_is u v parts.0 in
    let rest : us ≡ vs = same_all_is us vs parts.1 in
    cc

same_all_self : (us : List VersionParts) → pointwise same_version us us ≡ true
same_all_self [] = refl
same_all_self (u ∷ us) =
    and_from (same_version u u) (pointwise same_version us us) (same_version_from u u refl)
    (same_all_self us)

current_is : (row : Siblings) (a : Answer) → is_current row a ≡ true →
    record { key = a.key; versions = a.row } ≡ row
current_is row a e =
    let parts = and_parts (same_key a.key row.key) (pointwise same_version a.row row.versions) e in
    let k : a.key ≡ row.key = same_key_is a.key row.key parts.0 in
    let v : a.row ≡ row.versions = same_all_is a.row row.versions parts.1 in
    let of : List ℕ → List VersionParts → Siblings = λ j vs. record { key = j; versions = vs } in
    ap (λ j. of j a.row) k ∙ ap (of row.key) v

current_from : (row : Siblings) (a : Answer) → record { key = a.key; versions = a.row } ≡ row →
    is_current row a ≡ true
current_from row a e =
    let k : a.key ≡ row.key = ap (λ (s : Siblings). s.key) e in
    let v : a.row ≡ row.versions = ap (λ (s : Siblings). s.versions) e in
    and_from (same_key a.key row.key) (pointwise same_version a.row row.versions)
    (ap (same_key a.key) (sym k) ∙ same_key_self a.key)
    (ap (pointwise same_version a.row) (sym v) ∙ same_all_self a.row)

-- what tells the same rows apart is the test
pub current_by : (row : Siblings) (a : Answer) (b : Bool) →
    IsTrue b ↔ (record { key = a.key; versions = a.row } ≡ row) → b ≡ is_current row a
current_by row a b tells = elim (cases_Bool b) [
  | inl true_b ↦ true_b ∙ sym (current_from row a (tells.0 true_b))
  | inr false_b ↦ (elim (cases_Bool (is_current row a)) [
    | inl current ↦ tells.1 (current_is row a current) ∙ sym current
    | inr other ↦ false_b ∙ sym other
  ])
]

pub stale_told : (row : Siblings) (a : Answer) → IsTrue (tells_stale row a) ↔ IsStale row a
stale_told row a = (
  (λ told.
      let parts = and_parts (a.holder == a.home) (not (is_current row a)) told in
      record {
        own = eqb-true a.holder a.home parts.0;
        other = λ same. true≢false
            (sym (current_from row a same) ∙ not-true (is_current row a) parts.1);
      }),
  (λ stale. and_from (a.holder == a.home) (not (is_current row a))
      (eq-eqb a.holder a.home stale.own)
      (elim (cases_Bool (is_current row a)) [
        | inl current ↦ absurd (stale.other (current_is row a current))
        | inr other ↦ not_from_false (is_current row a) other
      ])),
)
