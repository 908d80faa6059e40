-- What is read of an input, and what is kept of a line.
use Rattle.std.proofs.Common.{◌≡◌, ◌≢◌, ◌∙◌, ◌++◌, ◌∷◌, [], All, Bool, List, ℕ, Option, Some, None}
use Rattle.std.proofs.Common.{◌+◌, ◌<◌, ◌≤◌, IfSome, length, take, sym, subst, ap, arith}
use Rattle.std.proofs.Common.{append-nil, eq-eqb, eqb-true, get_or-take, length-take-le, take_all}
use Rattle.std.proofs.lemmas.List.{take_more}
use Rattle.std.proofs.lemmas.List.Elements.{All-from_get_or}
use Rattle.memchr.specs.Find.{Nowhere, Passes, is_byte}
use Rattle.std.specs.Io.KnownBytes.{Consumes}
use Rattle.dy_serve.specs.InputLines.{IsAllOf, IsKept}

-- nothing more was read of it
pub kept_with_nothing : (is_long : Bool) (kept whole : List ℕ) → IsKept is_long kept whole →
    IsKept is_long kept (whole ++ [])
kept_with_nothing is_long kept whole h =
    subst (IsKept is_long kept) (sym (append-nil whole)) h

-- where nothing is ready, nothing is left
pub all_of_nothing : (given : Option (List ℕ)) (ready : List ℕ) →
    IfSome given (λ xs. length ready ≡ 0 → xs ≡ []) → length ready ≡ 0 → IsAllOf given []
all_of_nothing None ready end none = tt
all_of_nothing (Some xs) ready end none = sym (end none)

-- what was taken before, and all that is left, are all
pub all_behind : (given left : Option (List ℕ)) (before rest : List ℕ) →
    Consumes given left before → IsAllOf left rest → IsAllOf given (before ++ rest)
all_behind None left before rest taken all = tt
all_behind (Some xs) None before rest taken all = absurd taken
all_behind (Some xs) (Some ys) before rest taken all =
    ap (λ l. before ++ l) all ∙ sym taken

-- no byte before this place is a line feed
pub none_before : (ready : List ℕ) (n : ℕ) → n ≤ length ready →
    Nowhere (Passes (is_byte 10) ready) 0 n → All (λ x. x ≢ 10) (take n ready)
none_before ready n within nowhere =
    All-from_get_or (λ x. x ≢ 10) (take n ready) 0 (λ i below same.
    let inside : i < n = omega (arith, below, length-take-le n ready within) in
    let from : 0 ≤ i = omega arith in
    nowhere i from inside (eq-eqb _ _ (sym (get_or-take n ready i 0 inside) ∙ same)))

-- none at all is
pub none_ready : (ready : List ℕ) → Nowhere (Passes (is_byte 10) ready) 0 (length ready) →
    All (λ x. x ≢ 10) ready
none_ready ready nowhere =
    let all : length ready ≤ length ready = omega arith in
    subst (All (λ x. x ≢ 10)) (take_all (length ready) ready all)
    (none_before ready (length ready) all nowhere)

-- the first line feed stands behind what is before it
pub through_feed : (ready : List ℕ) (at : ℕ) → at < length ready → Passes (is_byte 10) ready at →
    take (at + 1) ready ≡ take at ready ++ 10 ∷ []
through_feed ready at within feed =
    take_more ready at 0 within ∙ ap (λ x. take at ready ++ x ∷ []) (eqb-true _ _ feed)
