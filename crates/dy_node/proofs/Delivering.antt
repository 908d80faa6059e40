-- Messages that are stored one after another.
use Rattle.std.proofs.Common.{◌≡◌, ℕ, zero, suc, ◌+◌, ◌<◌, List, [], ◌∷◌, ◌++◌, Some, map, take}
use Rattle.std.proofs.Common.{drop, length, slice_get, slice_index_or, refl, sym, ap, ◌∙◌, subst}
use Rattle.std.proofs.Common.{arith}
use Rattle.std.specs.List.{All}
use Rattle.std.proofs.lemmas.List.{append-nil, append_assoc}
use Rattle.std.proofs.lemmas.List.Elements.{All-nil}
use Rattle.dy_shares.specs.Shares.{NodePart, untold, with_steps}
use Rattle.dy_book.specs.Books.{BookParts, with_untold}
use Rattle.dy_node.specs.Nodes.{NodeState, IsDelivered, holds_of}

-- what holds of all holds of those after the first
pub all_but_first : {X : Type 0} (P : X → Type 0) (xs : List X) → All P xs → All P (drop 1 xs)
all_but_first P [] all = All-nil P
all_but_first P (x ∷ xs) all = λ k d lt. all (suc k) d (omega (arith, lt))

-- the first is there
pub first_there : {X : Type 0} (xs : List X) (x : X) → 0 < length xs → x ≡ slice_index_or xs 0 x →
    slice_get xs 0 ≡ Some x
first_there [] x some at = absurd (omega (arith, some))
first_there (y ∷ ys) x some at = ap Some (sym at)

-- the first of those behind
pub first_behind : {X : Type 0} (k : ℕ) (xs : List X) → slice_get (drop k xs) 0 ≡ slice_get xs k
first_behind zero xs = refl
first_behind (suc k) [] = refl
first_behind (suc k) (x ∷ xs) = first_behind k xs

take_more : {X : Type 0} (k : ℕ) (xs : List X) → take k xs ++ take 1 (drop k xs) ≡ take (suc k) xs
take_more zero xs = refl
take_more (suc k) [] = refl
take_more (suc k) (x ∷ xs) = ap (λ ys. x ∷ ys) (take_more k xs)

drop_more : {X : Type 0} (k : ℕ) (xs : List X) → drop 1 (drop k xs) ≡ drop (suc k) xs
drop_more zero xs = refl
drop_more (suc k) [] = refl
drop_more (suc k) (x ∷ xs) = drop_more k xs

map_more : {X Y : Type 0} (f : X → Y) (xs ys : List X) → map f (xs ++ ys) ≡ map f xs ++ map f ys
map_more f [] ys = refl
map_more f (x ∷ xs) ys = ap (λ zs. f x ∷ zs) (map_more f xs ys)

pub delivered_none : (b : BookParts) (n : NodeState) → IsDelivered b n 0 b n
delivered_none b n =
    record {
      log = λ i. record b { log = sym (append-nil b.log) i };
      share = λ i. record { node = n.part.node; steps = sym (append-nil n.part.steps) i };
      waiting = refl;
      is_up = refl;
      mode = refl;
    }

pub delivered_more : (b c d : BookParts) (old mid new : NodeState) (k : ℕ) →
    IsDelivered b old k c mid → IsDelivered c mid 1 d new → IsDelivered b old (suc k) d new
delivered_more b c d old mid new k before now =
    record {
      log = now.log ∙ (λ i. with_untold (before.log i) (more i)) ∙ (λ i. record b { log = logs i });
      share = now.share ∙ (λ i. with_steps (before.share i) (more i))
          ∙ (λ i. record { node = old.part.node; steps = parts i });
      waiting = now.waiting ∙ ap (drop 1) before.waiting ∙ drop_more k old.waiting;
      is_up = now.is_up ∙ before.is_up;
      mode = now.mode ∙ before.mode;
    }
  where
    more : holds_of mid.part.node (take 1 mid.waiting) ≡ holds_of old.part.node
        (take 1 (drop k old.waiting))
    more = λ i. holds_of (ap (λ (p : NodePart). p.node) before.share i) (take 1 (before.waiting i))

    all : holds_of old.part.node (take k old.waiting) ++ holds_of old.part.node
        (take 1 (drop k old.waiting)) ≡ holds_of old.part.node (take (suc k) old.waiting)
    all = sym (map_more _ (take k old.waiting) (take 1 (drop k old.waiting)))
        ∙ ap (holds_of old.part.node) (take_more k old.waiting)

    parts : (old.part.steps ++ holds_of old.part.node (take k old.waiting)) ++ holds_of
        old.part.node (take 1 (drop k old.waiting)) ≡ old.part.steps ++ holds_of old.part.node
        (take (suc k) old.waiting)
    parts = append_assoc old.part.steps _ _ ∙ ap (λ xs. old.part.steps ++ xs) all

    logs : (b.log ++ map untold (holds_of old.part.node (take k old.waiting))) ++ map untold
        (holds_of old.part.node (take 1 (drop k old.waiting))) ≡ b.log ++ map untold
        (holds_of old.part.node (take (suc k) old.waiting))
    logs = append_assoc b.log _ _ ∙ ap (λ xs. b.log ++ xs)
        (sym (map_more untold _ _) ∙ ap (map untold) all)

pub delivered_next : (b c d : BookParts) (old mid new : NodeState) (k : ℕ) →
    IsDelivered b old k c mid → IsDelivered c mid 1 d new → IsDelivered b old (k + 1) d new
delivered_next b c d old mid new k before now =
    let next : suc k ≡ k + 1 = omega arith in
    subst (λ j. IsDelivered b old j d new) next (delivered_more b c d old mid new k before now)
