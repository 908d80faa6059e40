-- A share comes back for good once: its seat is marked then, and no share that is out has the mark.
use Rattle.std.proofs.Common.{◌≡◌, ◌≢◌, ℕ, ◌+◌, ◌≤◌, List, [], ◌∷◌, ◌++◌, Bool, true, false, map, nat_eq, set, refl, sym, ap, ◌∙◌, subst, arith}
use Rattle.std.specs.List.{AllByRecursion as ByRecursion, IsDistinct}
use Rattle.std.proofs.lemmas.Bool.Decides.{nat_tests}
use Rattle.std.proofs.lemmas.List.Elements.{All-contains, All-append, All-cons, All-nil, All-weaker, Contains-append_right, recursion_from_All}
use Rattle.std.proofs.lemmas.Map.Keys.{IsDistinct-cons}
use mathlib.Core.Logic.{dite}
use mathlib.Core.Option.{some, some-injective}
use native.Mathlib.Decide.{ℕ_discrete}
use lib.ListN.{get_elem?}
use Rattle.atomic_table.proofs.Lists.{set_here, set_else}
use Rattle.dy_siblings.proofs.Members.{in_head}
use Rattle.dy_core.specs.declared.steps.Step.{Step}
use Rattle.dy_core.specs.declared.steps.Step.TheVariants.{Ack}
use Rattle.dy_shares.specs.declared.entries.Done.{Done}
use Rattle.dy_shares.specs.declared.entries.Entry.{Entry}
use Rattle.dy_shares.specs.Shares.{SessionPart}
use Rattle.dy_shares.specs.inside.Agreeing.{IsOut, retired}
use Rattle.dy_shares.specs.inside.Parts.{AgreesAsSession, CameBack, numbered}
use Rattle.dy_shares.proofs.Agreements.{inside}

abbrev mark : Done
mark = record { at = 0; step = Ack [] (record { node = 0; counter = 0 }) 0 }

-- a part with the mark is not out
marked_is_back : (part : List Done) → IsOut (retired part) → ⊥
marked_is_back part out =
    let low = All-contains (λ (x : Done). 1 ≤ x.at) (part ++ mark ∷ []) mark out
    (Contains-append_right part (mark ∷ []) mark (in_head mark [])) in
    omega (arith, low)

-- steps that have numbers have no mark
pub numbered_out : (at : ℕ) (ss : List Step) → 1 ≤ at → IsOut (numbered at ss)
numbered_out at [] some_at = All-nil (λ (x : Done). 1 ≤ x.at)
numbered_out at (s ∷ ss) some_at =
    All-cons (λ (x : Done). 1 ≤ x.at) (record { at = at; step = s }) (numbered (at + 1) ss) some_at
    (numbered_out (at + 1) ss (omega (arith, some_at)))

-- a part that is out is so with steps that are
pub out_longer : (part more : List Done) → IsOut part → IsOut more → IsOut (part ++ more)
out_longer part more out rest = All-append (λ (x : Done). 1 ≤ x.at) part more out rest

apart_test : (n k : ℕ) → n ≢ k → nat_eq n k ≡ false
apart_test n k apart = by_test (nat_eq n k) refl
  where
    by_test : (b : Bool) → nat_eq n k ≡ b → b ≡ false
    by_test true h = absurd (apart (grind (arith, nat_tests)))
    by_test false h = refl

none_twice : IsDistinct nat_eq []
unfolding IsDistinct
none_twice = tt

-- where none came back
pub none_back : (roll : List (List Done)) → CameBack roll [] roll
none_back roll = record {
  distinct = none_twice;
  marked = All-nil (λ k. (part : List Done) × (get_elem? roll k ≡ some (retired part)));
  stays = λ k part out at. at;
}

-- one more came back
module _ (old roll new : List (List Done)) (seats : List ℕ) (back : CameBack old seats roll)
    (k : ℕ) (part : List Done) (at : get_elem? roll k ≡ some part) (out : IsOut part)
    (is : new ≡ set roll k (retired part)) where
  other_seat : (j : ℕ) → ((own : List Done) × (get_elem? roll j ≡ some (retired own))) → k ≢ j
  other_seat j marked same =
      let parts_are : part ≡ retired marked.0 = some-injective part (retired marked.0)
      (sym at ∙ ap (get_elem? roll) same ∙ marked.1) in
      marked_is_back marked.0 (subst IsOut parts_are out)

  apart_from : (js : List ℕ) →
      ByRecursion (λ j. (own : List Done) × (get_elem? roll j ≡ some (retired own))) js →
      ByRecursion (λ j. nat_eq k j ≡ false) js
  apart_from [] all = tt
  apart_from (j ∷ js) all = (apart_test k j (other_seat j all.0), apart_from js all.1)

  at_else : (j : ℕ) → k ≢ j → get_elem? new j ≡ get_elem? roll j
  at_else j apart = ap (λ r. get_elem? r j) is ∙ set_else roll k j (retired part) (λ h. apart (sym h))

  at_here : get_elem? new k ≡ some (retired part)
  at_here = ap (λ r. get_elem? r k) is ∙ set_here roll k (retired part) (inside roll k part at)

  pub one_back : CameBack old (k ∷ seats) new
  one_back = record {
    distinct = IsDistinct-cons nat_eq k seats
        (apart_from seats (recursion_from_All
        (λ j. (own : List Done) × (get_elem? roll j ≡ some (retired own))) seats back.marked))
        back.distinct;
    marked = All-cons (λ j. (own : List Done) × (get_elem? new j ≡ some (retired own))) k seats
        (part, at_here)
        (All-weaker (λ j. (own : List Done) × (get_elem? roll j ≡ some (retired own)))
        (λ j. (own : List Done) × (get_elem? new j ≡ some (retired own)))
        (λ j m. (m.0, at_else j (other_seat j m) ∙ m.1)) seats back.marked);
    stays = λ j own is_out there. dite (ℕ_discrete k j)
        (λ same. absurd (marked_is_back part (subst IsOut
        (some-injective own (retired part)
        (sym there ∙ (ap (get_elem? new) (sym same) ∙ at_here))) is_out)))
        (λ apart. back.stays j own is_out (sym (at_else j apart) ∙ there));
  }

  -- its part was that of its seat before any came back
  pub was_there : get_elem? old k ≡ some part
  was_there = back.stays k part out at

-- a session's share agrees with the roll as it was before others came back
pub agreed_before : (nodes r : ℕ) (old new : List (List Done)) (seats : List ℕ) (log : List Entry) →
    CameBack old seats new → (s : SessionPart) → AgreesAsSession nodes r new log s →
    AgreesAsSession nodes r old log s
agreed_before nodes r old new seats log back s a = record {
  part = a.part;
  seat_has = back.stays (nodes + s.session) a.part a.is_out a.seat_has;
  is_out = a.is_out;
  acks_are = a.acks_are;
  spent_are = a.spent_are;
  gets_match = a.gets_match;
  in_turn = a.in_turn;
}

-- no session is there twice, where no seat is
pub sessions_distinct : (nodes : ℕ) (ss : List SessionPart) →
    IsDistinct nat_eq (map (λ s. nodes + s.session) ss) →
    IsDistinct nat_eq (map (λ s. s.session) ss)
unfolding IsDistinct
sessions_distinct nodes [] d = tt
sessions_distinct nodes (s ∷ ss) d = (apart_all ss d.0, sessions_distinct nodes ss d.1)
  where
    shifted : (j k : ℕ) → nat_eq (nodes + j) (nodes + k) ≡ false → nat_eq j k ≡ false
    shifted j k h = by_test (nat_eq j k) refl
      where
        by_test : (b : Bool) → nat_eq j k ≡ b → b ≡ false
        by_test true t = absurd (grind (arith, nat_tests))
        by_test false t = refl

    apart_all : (ss : List SessionPart) →
        ByRecursion (λ j. nat_eq (nodes + s.session) j ≡ false) (map (λ s. nodes + s.session) ss) →
        ByRecursion (λ j. nat_eq s.session j ≡ false) (map (λ s. s.session) ss)
    apart_all [] a = tt
    apart_all (x ∷ xs) a = (shifted s.session x.session a.0, apart_all xs a.1)
