-- Those who stand in are distinct, and neither homes nor the coordinator.
use Rattle.std.proofs.Common.{◌≡◌, ◌≢◌, ◌∙◌, ℕ, ◌+◌, ◌<◌, ◌==◌, nat_eq, not, true, false, List, length, get_or, take, drop, sym, arith}
use Rattle.std.specs.List.{All, AllPairs, IsDistinct}
use Rattle.std.proofs.lemmas.Bool.{eqb-false, ne_eqb, not-true}
use Rattle.std.proofs.lemmas.Bool.Decides.{Decides-eqb}
use Rattle.std.proofs.lemmas.List.{get_or-drop, get_or-take, get_or_default, length-drop, length-take}
use Rattle.std.proofs.lemmas.List.Elements.{All-filter, All-weaker, filter_passes}
use Rattle.std.proofs.lemmas.List.Folds.{list_any_none}
use Rattle.std.proofs.lemmas.List.Kept.{AllPairs-filter}
use Rattle.std.proofs.lemmas.Map.Made.{AllPairs-from_IsDistinct, IsDistinct-from_AllPairs}
use Rattle.dy_preference.specs.Preferences.{is_home, stand_ins_of}

pairs_drop : (n : ℕ) (xs : List ℕ) → AllPairs (λ x y. x ≢ y) xs → AllPairs (λ x y. x ≢ y) (drop n xs)
pairs_drop n xs apart i j d lt in' =
    let within : n + j < length xs = omega (arith, length-drop n xs) in
    λ e. apart (n + i) (n + j) d (omega arith) within (sym (get_or-drop n xs i d) ∙ e ∙ get_or-drop n xs j d)

pub stand_ins_once : (nodes : List ℕ) (n coordinator : ℕ) → IsDistinct nat_eq nodes → IsDistinct nat_eq (stand_ins_of nodes n coordinator)
stand_ins_once nodes n coordinator once =
    IsDistinct-from_AllPairs Decides-eqb (stand_ins_of nodes n coordinator)
    (AllPairs-filter (λ x y. x ≢ y) (λ node. not (node == coordinator)) (drop n nodes) (pairs_drop n nodes (AllPairs-from_IsDistinct Decides-eqb nodes once)))

pub stand_ins_others : (nodes : List ℕ) (n coordinator : ℕ) → All (λ node. node ≢ coordinator) (stand_ins_of nodes n coordinator)
stand_ins_others nodes n coordinator =
    All-weaker (λ node. not (node == coordinator) ≡ true) (λ node. node ≢ coordinator) (λ node is. eqb-false node coordinator (not-true (node == coordinator) is)) (stand_ins_of nodes n coordinator)
    (filter_passes (λ node. not (node == coordinator)) (drop n nodes))

pub stand_ins_past : (nodes : List ℕ) (n coordinator : ℕ) → IsDistinct nat_eq nodes → All (λ node. is_home (take n nodes) node ≡ false) (stand_ins_of nodes n coordinator)
stand_ins_past nodes n coordinator once =
    All-filter (λ node. not (node == coordinator)) (λ node. is_home (take n nodes) node ≡ false) (drop n nodes)
    (λ k d lt.
    let within : n + k < length nodes = omega (arith, length-drop n nodes) in
    list_any_none (λ home. home == get_or (drop n nodes) k d) (take n nodes)
    (λ j e in'.
    let below : j < n = omega (arith, length-take n nodes) in
    let least : j < length nodes = omega arith in
    ne_eqb (get_or (take n nodes) j e) (get_or (drop n nodes) k d)
    (λ same. AllPairs-from_IsDistinct Decides-eqb nodes once j (n + k) d (omega arith) within
    (default j least e d ∙ sym (get_or-take n nodes j e below) ∙ same ∙ get_or-drop n nodes k d))))
  where
    default : (j : ℕ) → j < length nodes → (e d : ℕ) → get_or nodes j d ≡ get_or nodes j e
    default j lt e d = get_or_default nodes j d e lt
