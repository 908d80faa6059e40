-- Answers of one book agree, and merge one by one into the merge of all.
use Rattle.std.proofs.Common.{◌≡◌, ℕ, ◌-◌, ◌≤◌, ◌⊎◌, Bool, true, false, leb, List, [], ◌∷◌, ◌++◌}
use Rattle.std.proofs.Common.{length, take, drop, refl, sym, ap, ◌∙◌, subst, inl, inr, ⊎_elim}
use Rattle.std.proofs.Common.{arith}
use Rattle.std.specs.List.{All, Contains}
use Rattle.std.proofs.lemmas.Bool.{leb-true, leb-false}
use Rattle.std.proofs.lemmas.List.{append-nil, append_assoc, take-append-drop}
use Rattle.std.proofs.lemmas.List.Elements.{All-append, All-cons, All-contains, All-nil, All-weaker}
use Rattle.std.proofs.lemmas.List.Elements.{Contains-append_left, Contains-append_right}
use Rattle.std.proofs.lemmas.List.Elements.{Contains-append_cases}
use mathlib.Core.List.{IsPrefix}
use Rattle.dy_siblings.specs.Siblings.{AreOneByDot, IsSameRow, is_past, merge, newest}
use Rattle.dy_siblings.specs.declared.versions.Version.{Version}
use Rattle.dy_siblings.proofs.Merges.{unmerged}
use Rattle.dy_core.specs.Worlds.{Layout, AreMadeOf}
use Rattle.dy_core.specs.Logs.{Answer, IsAnswer, IsLegal, rows_of, world_after}
use Rattle.dy_core.specs.declared.steps.Step.{Step}
use Rattle.dy_core.proofs.Keeping.{all_from}
use Rattle.dy_core.proofs.Standing.{stands_from}
use Rattle.dy_core.proofs.Merging.{log_merges, newest_from, newest_same, same_row_on}
use Rattle.dy_core.proofs.Ordered.{same_version}
use Rattle.dy_core.proofs.OverLogs.{log_sound, issued_stays}
use Rattle.dy_shares.specs.Shares.{steps_of}
use Rattle.dy_shares.specs.Merged.{Merged, AreOfLog, IsMergeOf}
use Rattle.dy_shares.specs.declared.entries.Entry.{Entry}
use Rattle.dy_shares.proofs.Fronts.{prefix_self, prefix_shorter}
use Rattle.dy_shares.proofs.Later.{steps_begin}

All-one : {X : Type 0} (P : X → Type 0) (x : X) → P x → All P (x ∷ [])
All-one P x p = All-cons P x [] p (All-nil P)

-- the version is of the key, and the log made it
abbrev IsMadeIn : List Entry → List ℕ → Version → Type 0
IsMadeIn log key v = (v.key ≡ key) × Contains (world_after (steps_of log)).versions v

le_either : (m n : ℕ) → (m ≤ n) ⊎ (n ≤ m)
le_either m n = go (leb m n) refl
  where
    go : (b : Bool) → leb m n ≡ b → (m ≤ n) ⊎ (n ≤ m)
    go true e = inl (leb-true m n e)
    go false e = inr (omega (arith, leb-false m n e))

prefix_on : {A : Type 0} (xs ys zs : List A) → IsPrefix xs ys → IsPrefix ys zs → IsPrefix xs zs
prefix_on xs ys zs p q = (p.0 ++ q.0, sym (append_assoc xs p.0 q.0) ∙ ap (λ l. l ++ q.0) p.1 ∙ q.1)

-- what an answer shows was made, and is of its key
pub answer_made : (layout : Layout) (steps : List Step) → IsLegal layout steps →
    (a : Answer) → IsAnswer steps a → AreMadeOf (world_after steps) a.key a.row
answer_made layout steps legal a is =
    let k = a.at - 1 in
    let whole : take k steps ++ drop k steps ≡ steps = take-append-drop k steps in
    all_from (λ v. (v.key ≡ a.key) × Contains (world_after steps).versions v) a.row (λ v inside.
    let s = stands_from (world_after (take k steps)) a.holder a.home a.key v
    ((is.is_row v).0 inside) in
    let early = issued_stays layout (take k steps) (drop k steps)
    (subst (IsLegal layout) (sym whole) legal) v s.made in
    (s.key_is, subst (λ ss. Contains (world_after ss).versions v) whole early))

made_later : (layout : Layout) (front log : List Entry) → IsPrefix front log →
    IsLegal layout (steps_of log) → (key : List ℕ) (vs : List Version) →
    AreMadeOf (world_after (steps_of front)) key vs → AreMadeOf (world_after (steps_of log)) key vs
made_later layout front log p legal key vs made =
    let is = steps_begin front log p in
    All-weaker (λ v. (v.key ≡ key) × Contains (world_after (steps_of front)).versions v)
    (λ v. (v.key ≡ key) × Contains (world_after (steps_of log)).versions v)
    (λ v m. (
      m.0,
      subst (λ ss. Contains (world_after ss).versions v) is
          (issued_stays layout (steps_of front) (steps_of p.0)
          (subst (IsLegal layout) (sym is) legal) v m.1),
    ))
    vs made

module _ (layout : Layout) where
  -- a front that begins with the one has what that has
  of_log_on : (front new : List Entry) (key : List ℕ) (vs : List Version) → IsPrefix front new →
      AreOfLog layout front key vs → AreOfLog layout new key vs
  of_log_on front new key vs p of =
      record {
        log = of.log;
        begins = prefix_on of.log front new of.begins p;
        legal = of.legal;
        made = of.made;
      }

  -- of two legal logs that begin one front the longer has what both have
  of_log_both : (front : List Entry) (key : List ℕ) (xs ys : List Version) →
      AreOfLog layout front key xs → AreOfLog layout front key ys →
      AreOfLog layout front key (xs ++ ys)
  of_log_both front key xs ys of_xs of_ys =
      ⊎_elim shorter longer (le_either (length of_xs.log) (length of_ys.log))
    where
      shorter : length of_xs.log ≤ length of_ys.log → AreOfLog layout front key (xs ++ ys)
      shorter le =
          let p = prefix_shorter of_xs.log of_ys.log front of_xs.begins of_ys.begins le in
          record {
            log = of_ys.log;
            begins = of_ys.begins;
            legal = of_ys.legal;
            made = All-append (IsMadeIn of_ys.log key) xs ys
                (made_later layout of_xs.log of_ys.log p of_ys.legal key xs of_xs.made) of_ys.made;
          }

      longer : length of_ys.log ≤ length of_xs.log → AreOfLog layout front key (xs ++ ys)
      longer le =
          let p = prefix_shorter of_ys.log of_xs.log front of_ys.begins of_xs.begins le in
          record {
            log = of_xs.log;
            begins = of_xs.begins;
            legal = of_xs.legal;
            made = All-append (IsMadeIn of_xs.log key) xs ys of_xs.made
                (made_later layout of_ys.log of_xs.log p of_xs.legal key ys of_ys.made);
          }

  -- what a front and another have, each of them a beginning of the new one
  pub of_log_joined : (mine other new : List Entry) (key : List ℕ) (xs ys : List Version) →
      IsPrefix mine new → IsPrefix other new →
      AreOfLog layout mine key xs → AreOfLog layout other key ys →
      AreOfLog layout new key (xs ++ ys)
  of_log_joined mine other new key xs ys p q of_xs of_ys =
      of_log_both new key xs ys (of_log_on mine new key xs p of_xs)
      (of_log_on other new key ys q of_ys)

  -- versions of one legal log with one dot are one version
  pub of_log_agree : (front : List Entry) (key : List ℕ) (vs : List Version) →
      AreOfLog layout front key vs → AreOneByDot vs
  of_log_agree front key vs of u v in_u in_v same =
      let made = All-contains
      (λ x. (x.key ≡ key) × Contains (world_after (steps_of of.log)).versions x) vs in
      let mu = made u of.made in_u in
      let mv = made v of.made in_v in
      same_version (world_after (steps_of of.log)).versions
      (log_sound layout (steps_of of.log) of.legal).ordered u v mu.1 mv.1 (mu.0 ∙ sym mv.0) same

  -- an answer is of the log that it was seen in
  pub of_log_answer : (front : List Entry) (a : Answer) → IsLegal layout (steps_of front) →
      IsAnswer (steps_of front) a → AreOfLog layout front a.key a.row
  of_log_answer front a legal is =
      record {
        log = front;
        begins = prefix_self front;
        legal = legal;
        made = answer_made layout (steps_of front) legal a is;
      }

  -- versions that were merged, and an answer's
  pub of_log_more : (mine other new : List Entry) (key : List ℕ) (xs ys : List Version)
      (a : Answer) → a.key ≡ key → ys ≡ a.row → IsPrefix mine new → IsPrefix other new →
      AreOfLog layout mine key xs → IsLegal layout (steps_of other) → IsAnswer (steps_of other) a →
      AreOfLog layout new key (xs ++ ys)
  of_log_more mine other new key xs ys a key_is row_is p q of_xs legal is =
      of_log_joined mine other new key xs ys p q of_xs
      (subst (λ k. AreOfLog layout other k ys) key_is
      (subst (AreOfLog layout other a.key) (sym row_is) (of_log_answer other a legal is)))

  -- what is left of them in a merge is of the log too
  pub of_log_merged : (front : List Entry) (key : List ℕ) (xs ys new : List Version) →
      IsSameRow new (merge xs ys) → AreOfLog layout front key (xs ++ ys) →
      AreOfLog layout front key new
  of_log_merged front key xs ys new merged of = record {
    log = of.log;
    begins = of.begins;
    legal = of.legal;
    made = all_from (IsMadeIn of.log key) new
        (λ v inside. All-contains (IsMadeIn of.log key) (xs ++ ys) v of.made
        (newest_from (xs ++ ys) v ((merged v).0 inside)).0);
  }

  rows_alone : (a : Answer) → rows_of (a ∷ []) ≡ a.row
  rows_alone a = append-nil a.row

  rows_more : (answers : List Answer) (a : Answer) →
      rows_of (answers ++ a ∷ []) ≡ rows_of answers ++ a.row
  rows_more [] a = append-nil a.row
  rows_more (x ∷ xs) a =
      ap (λ l. x.row ++ l) (rows_more xs a) ∙ sym (append_assoc x.row (rows_of xs) a.row)

  -- one answer is merged with itself alone
  pub merge_of_one : (m : Merged) (a : Answer) → m.key ≡ a.key → m.versions ≡ a.row →
      AreOfLog layout m.front m.key m.versions → All (λ v. is_past a.row v.dot ≡ false) a.row →
      IsMergeOf layout m (a ∷ [])
  merge_of_one m a key_is row_is of none = record {
    of_key = All-one (λ x. x.key ≡ m.key) a (sym key_is);
    of_log = subst (AreOfLog layout m.front m.key) (row_is ∙ sym (rows_alone a)) of;
    merged = subst (λ l. IsSameRow l (newest (rows_of (a ∷ [])))) (sym row_is)
        (subst (λ l. IsSameRow a.row (newest l)) (append-nil a.row ∙ sym (rows_alone a))
        (unmerged a.row none));
  }

  -- one answer more
  pub merge_of_more : (m n : Merged) (a : Answer) → a.key ≡ m.key → n.key ≡ m.key →
      IsPrefix m.front n.front →
      (other : List Entry) → IsPrefix other n.front → AreOfLog layout other a.key a.row →
      IsSameRow n.versions (merge m.versions a.row) →
      (answers : List Answer) → IsMergeOf layout m answers →
      IsMergeOf layout n (answers ++ a ∷ [])
  merge_of_more m n a key_is same_key p other q of_a merged answers is = record {
    of_key = subst (λ k. All (λ x. x.key ≡ k) (answers ++ a ∷ [])) (sym same_key)
        (All-append (λ x. x.key ≡ m.key) answers (a ∷ []) is.of_key
        (All-one (λ x. x.key ≡ m.key) a key_is));
    of_log = subst (λ k. AreOfLog layout n.front k (rows_of (answers ++ a ∷ []))) (sym same_key)
        (subst (AreOfLog layout n.front m.key) (sym (rows_more answers a)) both);
    merged =
        subst (λ l. IsSameRow n.versions (newest l)) (sym (rows_more answers a))
        (same_row_on n.versions (merge m.versions a.row) (newest (rows_of answers ++ a.row)) merged
        (same_row_on (merge m.versions a.row) (merge (newest (rows_of answers)) a.row)
        (newest (rows_of answers ++ a.row))
        (newest_same (m.versions ++ a.row) (newest (rows_of answers) ++ a.row) (appended is.merged))
        (log_merges layout (steps_of both.log) both.legal m.key (rows_of answers) a.row
        (first both.made) (second both.made))));
  }
    where
      both : AreOfLog layout n.front m.key (rows_of answers ++ a.row)
      both = of_log_joined m.front other n.front m.key (rows_of answers) a.row p q is.of_log
          (subst (λ k. AreOfLog layout other k a.row) key_is of_a)

      first : All (IsMadeIn both.log m.key) (rows_of answers ++ a.row) →
          All (IsMadeIn both.log m.key) (rows_of answers)
      first all = all_from (IsMadeIn both.log m.key) (rows_of answers)
          (λ v inside. All-contains (IsMadeIn both.log m.key) (rows_of answers ++ a.row) v all
          (Contains-append_left (rows_of answers) a.row v inside))

      second : All (IsMadeIn both.log m.key) (rows_of answers ++ a.row) →
          All (IsMadeIn both.log m.key) a.row
      second all = all_from (IsMadeIn both.log m.key) a.row
          (λ v inside. All-contains (IsMadeIn both.log m.key) (rows_of answers ++ a.row) v all
          (Contains-append_right (rows_of answers) a.row v inside))

      appended : IsSameRow m.versions (newest (rows_of answers)) →
          IsSameRow (m.versions ++ a.row) (newest (rows_of answers) ++ a.row)
      appended same v = (
        (λ h. ⊎_elim (λ l. Contains-append_left (newest (rows_of answers)) a.row v ((same v).0 l))
            (λ r. Contains-append_right (newest (rows_of answers)) a.row v r)
            (Contains-append_cases m.versions a.row v h)),
        (λ h. ⊎_elim (λ l. Contains-append_left m.versions a.row v ((same v).1 l))
            (λ r. Contains-append_right m.versions a.row v r)
            (Contains-append_cases (newest (rows_of answers)) a.row v h)),
      )
