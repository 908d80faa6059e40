-- Beginnings of one list.
use Rattle.std.proofs.Common.{◌≡◌, ◌≤◌, List, [], ◌∷◌, length, refl, ap, sym, ◌∙◌, subst, arith, length-append, ◌++◌}
use Rattle.std.proofs.lemmas.List.{append-nil, append_assoc}
use mathlib.Core.List.{IsPrefix}
use Rattle.dy_shares.specs.inside.Growth.{joined}

-- each list begins with itself
pub prefix_self : {A : Type 0} (xs : List A) → IsPrefix xs xs
prefix_self [] = ([], refl)
prefix_self (x ∷ xs) = (let r = prefix_self xs in r.0, ap (λ ys. x ∷ ys) (prefix_self xs).1)

-- of two beginnings of one list the shorter begins the longer
pub prefix_shorter : {A : Type 0} (xs ys zs : List A) → IsPrefix xs zs → IsPrefix ys zs → length xs ≤ length ys → IsPrefix xs ys
prefix_shorter [] ys zs p q le = (ys, refl)
prefix_shorter (x ∷ xs) [] zs p q le = absurd (omega arith)
prefix_shorter (x ∷ xs) (y ∷ ys) [] p q le = absurd (cc (p.1))
prefix_shorter (x ∷ xs) (y ∷ ys) (z ∷ zs) p q le =
    let heads : x ≡ y = cc (p.1, q.1) in
    let rest = prefix_shorter xs ys zs (p.0, cc (p.1)) (q.0, cc (q.1)) (omega arith) in
    (rest.0, cc (heads, rest.1))

-- a beginning as long as the whole is the whole
pub prefix_whole : {A : Type 0} (xs ys : List A) → IsPrefix xs ys → length ys ≤ length xs → xs ≡ ys
prefix_whole [] [] p le = refl
prefix_whole [] (y ∷ ys) p le = absurd (omega arith)
prefix_whole (x ∷ xs) [] p le = absurd (cc (p.1))
prefix_whole (x ∷ xs) (y ∷ ys) p le =
    let rest = prefix_whole xs ys (p.0, cc (p.1)) (omega arith) in cc (p.1, rest)

pub prefix_length : {A : Type 0} (xs ys : List A) → IsPrefix xs ys → length xs ≤ length ys
prefix_length xs ys p = omega (arith, sym (ap length p.1) ∙ length-append xs p.0)

-- of two beginnings of one list, where the second is as long as the list, the second begins with the first
pub begins_in : {A : Type 0} (front own both log : List A) → IsPrefix own both → IsPrefix front both → IsPrefix both log → length log ≤ length own → IsPrefix front own
begins_in front own both log o f b le =
    let lo = prefix_length own both o in
    let lb = prefix_length both log b in
    let same : own ≡ both = prefix_whole own both o (omega arith) in
    subst (λ l. IsPrefix front l) (sym same) f

pub joined_append : {A : Type 0} (xs ys : List (List A)) → joined (xs ++ ys) ≡ joined xs ++ joined ys
joined_append [] ys = refl
joined_append (x ∷ xs) ys = ap (λ l. x ++ l) (joined_append xs ys) ∙ sym (append_assoc x (joined xs) (joined ys))

-- one batch more
pub joined_more : {A : Type 0} (xs : List (List A)) (b : List A) → joined (xs ++ b ∷ []) ≡ joined xs ++ b
joined_more xs b = joined_append xs (b ∷ []) ∙ ap (λ l. joined xs ++ l) (append-nil b)

-- what begins a list of batches begins what they have
pub joined_prefix : {A : Type 0} (xs ys : List (List A)) → IsPrefix xs ys → IsPrefix (joined xs) (joined ys)
joined_prefix xs ys p = (joined p.0, sym (joined_append xs p.0) ∙ ap joined p.1)

pub joined_begins : {A : Type 0} (front own both log : List (List A)) → IsPrefix own both → IsPrefix front both → IsPrefix both log → length log ≤ length own → IsPrefix (joined front) (joined own)
joined_begins front own both log o f b le = joined_prefix front own (begins_in front own both log o f b le)
