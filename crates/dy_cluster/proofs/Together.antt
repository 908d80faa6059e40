-- Two lists that go together, item by item, at their ends.
use Rattle.std.proofs.Common.{◌≡◌, ◌++◌, List, [], ◌∷◌, length, suc, refl, sym, ap, subst}
use Rattle.std.specs.List.{AllZip}

-- they are of one length
pub together_length : {A B : Type 0} (R : A → B → Type 0) (xs : List A) (ys : List B) →
    AllZip R xs ys → length ys ≡ length xs
together_length R [] [] all = refl
together_length R [] (b ∷ ys) all = absurd all
together_length R (a ∷ xs) [] all = absurd all
together_length R (a ∷ xs) (b ∷ ys) all = ap suc (together_length R xs ys all.1)

push : {A B : Type 0} (R : A → B → Type 0) (xs : List A) (ys : List B) (x : A) (y : B) →
    AllZip R xs ys → R x y → AllZip R (xs ++ x ∷ []) (ys ++ y ∷ [])
push R [] [] x y all one = (one, tt)
push R [] (b ∷ ys) x y all one = absurd all
push R (a ∷ xs) [] x y all one = absurd all
push R (a ∷ xs) (b ∷ ys) x y all one = (all.0, push R xs ys x y all.1 one)

-- with one more pair at their ends they go together too
pub together_pushed : {A B : Type 0} (R : A → B → Type 0) (xs us : List A) (ys vs : List B) (x : A)
    (y : B) → us ≡ xs ++ x ∷ [] → vs ≡ ys ++ y ∷ [] → AllZip R xs ys → R x y → AllZip R us vs
together_pushed R xs us ys vs x y us_are vs_are all one =
    subst (λ zs. AllZip R zs vs) (sym us_are) (subst (λ zs. AllZip R (xs ++ x ∷ []) zs)
    (sym vs_are) (push R xs ys x y all one))

pop : {A B : Type 0} (R : A → B → Type 0) (xs : List A) (ys : List B) (x : A) (y : B) →
    AllZip R (xs ++ x ∷ []) (ys ++ y ∷ []) → AllZip R xs ys × R x y
pop R [] [] x y all = (tt, all.0)
pop R [] (b ∷ []) x y all = absurd all.1
pop R [] (b ∷ c ∷ ys) x y all = absurd all.1
pop R (a ∷ []) [] x y all = absurd all.1
pop R (a ∷ c ∷ xs) [] x y all = absurd all.1
pop R (a ∷ xs) (b ∷ ys) x y all = let rest = pop R xs ys x y all.1 in ((all.0, rest.0), rest.1)

-- the last two go together, and so do those before them
pub together_popped : {A B : Type 0} (R : A → B → Type 0) (us xs : List A) (vs ys : List B) (x : A)
    (y : B) → us ≡ xs ++ x ∷ [] → vs ≡ ys ++ y ∷ [] → AllZip R us vs → AllZip R xs ys × R x y
together_popped R us xs vs ys x y us_are vs_are all =
    pop R xs ys x y (subst (λ zs. AllZip R (xs ++ x ∷ []) zs) vs_are
    (subst (λ zs. AllZip R zs vs) us_are all))
