-- Lists, and the pairs of positions and nodes that they stand for.
use Rattle.std.proofs.Common.{◌≡◌, ℕ, ◌+◌, ◌<◌, List, ◌++◌, length, get_or, map, drop, sym, ap, ◌∙◌, append_assoc}
use Rattle.std.proofs.lemmas.List.{get_or-map, at_drop_more}
use Rattle.dy_ring.specs.inside.Making.{pairs_from}

-- a function of what was read
pub at_map : {X Y : Type 0} (f : X → Y) (xs : List X) (i : ℕ) (x : X) (e : Y) → i < length xs → x ≡ get_or xs i x → get_or (map f xs) i e ≡ f x
at_map f xs i x e lt read = get_or-map f xs i x e lt ∙ ap f (sym read)

-- one list more
pub pairs_more : {V : Type 0} (items : V → List ℕ) (lists : List V) (n node : ℕ) (v : V) (before after all : List (ℕ × ℕ)) (list : List ℕ) → n < length lists → v ≡ get_or lists n v → node ≡ n → list ≡ items v → after ≡ before ++ map (λ p. (p, node)) list → before ++ pairs_from n (map items (drop n lists)) ≡ all → after ++ pairs_from (n + 1) (map items (drop (n + 1) lists)) ≡ all
pairs_more items lists n node v before after all list lt read is_n is_v added so_far =
    let rest = pairs_from (n + 1) (map items (drop (n + 1) lists)) in
    let same : map (λ p. (p, node)) list ≡ map (λ p. (p, n)) (items v) = ap (λ m. map (λ p. (p, m)) list) is_n ∙ ap (map (λ p. (p, n))) is_v in
    let next : pairs_from n (map items (drop n lists)) ≡ map (λ p. (p, n)) (items v) ++ rest =
    at_drop_more (λ xs. pairs_from n (map items xs)) lists n v lt ∙ ap (λ x. map (λ p. (p, n)) (items x) ++ rest) (sym read) in
    ap (λ l. l ++ rest) (added ∙ ap (λ l. before ++ l) same)
    ∙ append_assoc before (map (λ p. (p, n)) (items v)) rest
    ∙ ap (λ l. before ++ l) (sym next)
    ∙ so_far
