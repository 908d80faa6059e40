-- The lines of numbered things, one behind the other.
use Rattle.std.proofs.Common.{◌≡◌, ℕ, List, [], ◌∷◌, ◌++◌, ◌+◌, ◌<◌, ◌≤◌, length, take, get_or}
use Rattle.std.proofs.Common.{slice_index_or, append-nil, sym, ap, arith, ◌∙◌}
use Rattle.std.specs.List.{enumerate_from, flat_map}
use Rattle.std.proofs.lemmas.Grind.{flat_map-append}
use Rattle.std.proofs.lemmas.List.{take_all, take_more}
use Rattle.std.proofs.lemmas.List.FromFn.{get_or-enumerate_from, length-enumerate_from}

-- the next numbered thing's lines come behind those before it
pub numbered-next : {X : Type 0} (f : ℕ × X → List ℕ) (first : ℕ) (xs : List X) (i : ℕ) (x : X)
    → i < length xs → x ≡ slice_index_or xs i x →
    flat_map f (take (i + 1) (enumerate_from first xs))
    ≡ flat_map f (take i (enumerate_from first xs)) ++ f (first + i, x)
numbered-next {X = X} f first xs i x within here =
    let all = enumerate_from first xs in
    let one : ℕ × X = (first + i, x) in
    let is : get_or all i one ≡ one =
    get_or-enumerate_from first xs i one within ∙ ap (λ (y : X). (first + i, y)) (sym here) in
    let inside : i < length all = rw (length-enumerate_from first xs) within in
    ap (flat_map f) (take_more all i one inside ∙ ap (λ (p : ℕ × X). take i all ++ p ∷ []) is)
    ∙ flat_map-append f (take i all) (one ∷ [])
    ∙ ap (λ l. flat_map f (take i all) ++ l) (append-nil (f one))

-- at the end they are the lines of all
pub numbered-all : {X : Type 0} (f : ℕ × X → List ℕ) (first : ℕ) (xs : List X) (i : ℕ)
    → length xs ≤ i →
    flat_map f (take i (enumerate_from first xs)) ≡ flat_map f (enumerate_from first xs)
numbered-all f first xs i past =
    ap (flat_map f)
    (take_all i (enumerate_from first xs) (omega (arith, past, length-enumerate_from first xs)))
