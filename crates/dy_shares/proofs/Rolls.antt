-- A roll of the parts of a log.
use Rattle.std.proofs.Common.{◌≡◌, ◌≢◌, ℕ, ◌+◌, ◌<◌, ◌==◌, Bool, true, false, cond, List, [], ◌∷◌, ◌++◌, length, set, Option, None, Some, refl, sym, ap, ◌∙◌, subst, arith, length-append, length-set}
use Rattle.std.proofs.lemmas.List.{append-nil}
use Rattle.std.proofs.lemmas.List.Elements.{recursion_from_All}
use Rattle.std.proofs.lemmas.Bool.Decides.{nat_tests}
use mathlib.Core.Option.{some, some-injective}
use mathlib.Core.Logic.{dite}
use native.Mathlib.Decide.{ℕ_discrete}
use Rattle.std.specs.List.{AllByRecursion as ByRecursion}
use lib.ListN.{get_elem?}
use Rattle.atomic_table.proofs.Lists.{set_here, set_else, at_longer, at_last}
use Rattle.dy_core.specs.declared.steps.Step.{Step}
use Rattle.dy_shares.specs.declared.entries.Entry.{Entry}
use Rattle.dy_shares.specs.declared.entries.Done.{Done}
use Rattle.dy_shares.specs.Shares.{names}
use Rattle.dy_shares.specs.inside.Parts.{seat_of, numbered, entries_of, done_from, AreOf, IsRollOf}
use Rattle.dy_shares.proofs.Agreements.{inside}

pub names_it : (k : ℕ) (o : Option ℕ) → o ≡ Some k → names k o ≡ true
names_it k o is = rw is (by_test (k == k) refl)
  where
    by_test : (b : Bool) → (k == k) ≡ b → b ≡ true
    by_test true h = refl
    by_test false h = absurd (grind (arith, nat_tests))

pub names_not : (j k : ℕ) (o : Option ℕ) → j ≢ k → o ≡ Some k → names j o ≡ false
names_not j k o apart is = rw is (by_test (k == j) refl)
  where
    by_test : (b : Bool) → (k == j) ≡ b → b ≡ false
    by_test true h = absurd (apart (grind (arith, nat_tests)))
    by_test false h = refl

pub names_none : (j : ℕ) (o : Option ℕ) → o ≡ None → names j o ≡ false
names_none j o is = rw is refl

-- what all do, by recursion on the list
each : {X : Type 0} (P Q : X → Type 0) → ((x : X) → P x → Q x) → (xs : List X) → ByRecursion P xs → ByRecursion Q xs
each P Q f [] a = tt
each P Q f (x ∷ xs) a = (f x a.0, each P Q f xs a.1)

module _ (nodes : ℕ) where
  pub done_append : (at k : ℕ) (xs ys : List Entry) → done_from nodes at k (xs ++ ys) ≡ done_from nodes at k xs ++ done_from nodes (at + length xs) k ys
  done_append at k [] ys = ap (λ n. done_from nodes n k ys) (omega arith)
  done_append at k (x ∷ xs) ys = by_test (names k (seat_of nodes x)) (done_append (at + 1) k xs ys ∙ ap (λ n. done_from nodes (at + 1) k xs ++ done_from nodes n k ys) (omega arith))
    where
      by_test : (b : Bool) → done_from nodes (at + 1) k (xs ++ ys) ≡ done_from nodes (at + 1) k xs ++ done_from nodes (at + length (x ∷ xs)) k ys
          → cond b (record { at = at; step = x.step } ∷ done_from nodes (at + 1) k (xs ++ ys)) (done_from nodes (at + 1) k (xs ++ ys))
          ≡ cond b (record { at = at; step = x.step } ∷ done_from nodes (at + 1) k xs) (done_from nodes (at + 1) k xs) ++ done_from nodes (at + length (x ∷ xs)) k ys
      by_test true rest = ap (λ ds. record { at = at; step = x.step } ∷ ds) rest
      by_test false rest = rest

  done_all : (at k : ℕ) (told : Option ℕ) (ss : List Step) → ByRecursion (λ e. names k (seat_of nodes e) ≡ true) (entries_of told ss) → done_from nodes at k (entries_of told ss) ≡ numbered at ss
  done_all at k told [] a = refl
  done_all at k told (s ∷ ss) a = rw a.0 (ap (λ ds. record { at = at; step = s } ∷ ds) (done_all (at + 1) k told ss a.1))

  done_none : (at k : ℕ) (es : List Entry) → ByRecursion (λ e. names k (seat_of nodes e) ≡ false) es → done_from nodes at k es ≡ []
  done_none at k [] a = refl
  done_none at k (e ∷ es) a = rw a.0 (done_none (at + 1) k es a.1)

  -- the seat whose entries they are has done these steps more
  pub done_more : (k : ℕ) (log : List Entry) (told : Option ℕ) (ss : List Step) → AreOf nodes (Some k) (entries_of told ss)
      → done_from nodes 1 k (log ++ entries_of told ss) ≡ done_from nodes 1 k log ++ numbered (length log + 1) ss
  done_more k log told ss all =
      let es = entries_of told ss in
      let mine = each (λ e. seat_of nodes e ≡ Some k) (λ e. names k (seat_of nodes e) ≡ true) (λ e is. names_it k (seat_of nodes e) is) es (recursion_from_All (λ e. seat_of nodes e ≡ Some k) es all) in
      let count : 1 + length log ≡ length log + 1 = omega arith in
      done_append 1 k log es
      ∙ ap (λ ds. done_from nodes 1 k log ++ ds) (done_all (1 + length log) k told ss mine ∙ ap (λ n. numbered n ss) count)

  -- the others have what they had
  pub done_same : (j : ℕ) (k : Option ℕ) (log es : List Entry) → ((o : Option ℕ) → o ≡ k → names j o ≡ false) → AreOf nodes k es → done_from nodes 1 j (log ++ es) ≡ done_from nodes 1 j log
  done_same j k log es not_named all =
      let others = each (λ e. seat_of nodes e ≡ k) (λ e. names j (seat_of nodes e) ≡ false) (λ e is. not_named (seat_of nodes e) is) es (recursion_from_All (λ e. seat_of nodes e ≡ k) es all) in
      done_append 1 j log es
      ∙ (ap (λ ds. done_from nodes 1 j log ++ ds) (done_none (1 + length log) j es others) ∙ append-nil (done_from nodes 1 j log))

  pub roll_free : (log es : List Entry) (opened : ℕ) (parts : List (List Done)) → AreOf nodes None es → IsRollOf nodes log opened parts → IsRollOf nodes (log ++ es) opened parts
  roll_free log es opened parts all r =
      record {
        many = r.many;
        each = λ k low. r.each k low ∙ ap some (sym (done_same k None log es (names_none k) all));
        others = λ k high. done_same k None log es (names_none k) all ∙ r.others k high;
      }

  pub roll_opened : (log : List Entry) (opened : ℕ) (parts : List (List Done)) → IsRollOf nodes log opened parts → IsRollOf nodes log (opened + 1) (parts ++ [] ∷ [])
  roll_opened log opened parts r =
      record {
        many = omega (arith, length-append parts ([] ∷ []), r.many);
        each = λ k low. dite (ℕ_discrete k opened)
            (λ is. at_last parts [] k (r.many ∙ sym is) ∙ ap some (sym (r.others k (omega arith))))
            (λ apart. at_longer parts ([] ∷ []) k (done_from nodes 1 k log) (r.each k (omega arith)));
        others = λ k high. r.others k (omega arith);
      }

  -- a share that agrees with its seat has what the seat has done
  pub roll_means : (log : List Entry) (opened : ℕ) (parts : List (List Done)) (k : ℕ) (own : List Done) → IsRollOf nodes log opened parts → get_elem? parts k ≡ some own → (k < opened) × (own ≡ done_from nodes 1 k log)
  roll_means log opened parts k own r at =
      let low = inside parts k own at in
      let within : k < opened = omega (arith, r.many) in
      (within, some-injective own (done_from nodes 1 k log) (sym at ∙ r.each k within))

  pub roll_grown : (log : List Entry) (told : Option ℕ) (ss : List Step) (opened : ℕ) (parts : List (List Done)) (k : ℕ) (own : List Done) → AreOf nodes (Some k) (entries_of told ss) → IsRollOf nodes log opened parts → get_elem? parts k ≡ some own
      → IsRollOf nodes (log ++ entries_of told ss) opened (set parts k (own ++ numbered (length log + 1) ss))
  roll_grown log told ss opened parts k own all r at =
      let m = roll_means log opened parts k own r at in
      let es = entries_of told ss in
      let low = inside parts k own at in
      let new = numbered (length log + 1) ss in
      let more = own ++ new in
      record {
        many = length-set parts k more ∙ r.many;
        each = λ j within. dite (ℕ_discrete j k)
            (λ is. subst (λ i. get_elem? (set parts k more) i ≡ some (done_from nodes 1 i (log ++ es))) (sym is)
            (set_here parts k more low ∙ ap some (ap (λ ds. ds ++ new) m.1 ∙ sym (done_more k log told ss all))))
            (λ apart. set_else parts k j more apart ∙ (r.each j within ∙ ap some (sym (done_same j (Some k) log es (λ o. names_not j k o apart) all))));
        others = λ j high. done_same j (Some k) log es (λ o. names_not j k o (λ is. omega (arith, m.0))) all ∙ r.others j high;
      }
