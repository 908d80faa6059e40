-- A list of which a part is read.
use Rattle.std.proofs.Common.{◌≡◌, ℕ, ◌+◌, ◌<◌, ◌≤◌, List, [], ◌∷◌, ◌++◌, length, get_or, drop, Result, Ok, Err, Global, refl, sym, ap, ◌∙◌, arith, add-one, append_assoc, drop-cons}
use Rattle.std.proofs.lemmas.List.{append-nil, drop_all}
use Rattle.serde_json.specs.Data.{Data}
use Rattle.serde_json.specs.Events.{items_len}
use Rattle.json.specs.declared.value.Value.{Value}
use Rattle.dy_dots.specs.declared.faults.Fault.{Fault}
use Rattle.dy_script.specs.Members.{each_of, seen, ◌>>=◌}
use Rattle.dy_script.specs.inside.Documents.{view, items_view}

-- what is read goes on after what was read
abbrev pub after : {A : Type 0} → List A → Result (List A) Fault → Result (List A) Fault
after done rest = seen (λ more. done ++ more) rest

-- the first i values read as done, and the whole list as that and the rest
pub record HasRead {A : Type 0} (f : ℕ → Data → Result A Fault) (vs : List (Value Global)) (i : ℕ) (done : List A) : Type 0 where
  pub so_far : each_of f 0 (items_view vs) ≡ after done (each_of f i (items_view (drop i vs)))

pub after-nil : {A : Type 0} (r : Result (List A) Fault) → r ≡ after [] r
after-nil (Ok xs) = refl
after-nil (Err e) = refl

-- nothing is read at first
pub HasRead-start : {A : Type 0} (f : ℕ → Data → Result A Fault) (vs : List (Value Global)) → HasRead f vs 0 []
HasRead-start f vs = record { so_far = after-nil (each_of f 0 (items_view vs)) }

-- one more element in front
pub after-push : {A : Type 0} (done : List A) (x : A) (r : Result (List A) Fault)
    → after done (r >>= (λ xs. Ok (x ∷ xs))) ≡ after (done ++ x ∷ []) r
after-push done x (Ok xs) = ap Ok (sym (append_assoc done (x ∷ []) xs))
after-push done x (Err e) = refl

each_of-step : {A : Type 0} (f : ℕ → Data → Result A Fault) (vs : List (Value Global)) (i : ℕ) (v : Value Global) → i < length vs
    → each_of f i (items_view (drop i vs)) ≡ (f i (view (get_or vs i v)) >>= (λ x. each_of f (i + 1) (items_view (drop (i + 1) vs)) >>= (λ xs. Ok (x ∷ xs))))
each_of-step f vs i v h = rw (drop-cons vs i v h, add-one) refl

-- the next value reads well
pub HasRead-more : {A : Type 0} (f : ℕ → Data → Result A Fault) (vs : List (Value Global)) (i : ℕ) (done : List A) (v : Value Global) (x : A) → i < length vs
    → HasRead f vs i done → f i (view (get_or vs i v)) ≡ Ok x → HasRead f vs (i + 1) (done ++ x ∷ [])
HasRead-more f vs i done v x h r e =
    let rest = each_of f (i + 1) (items_view (drop (i + 1) vs)) in
    record { so_far = r.so_far ∙ ap (after done) (each_of-step f vs i v h ∙ ap (λ y. y >>= (λ x. rest >>= (λ xs. Ok (x ∷ xs)))) e) ∙ after-push done x rest }

-- the next value is refused
pub HasRead-stop : {A : Type 0} (f : ℕ → Data → Result A Fault) (vs : List (Value Global)) (i : ℕ) (done : List A) (v : Value Global) (e : Fault) → i < length vs
    → HasRead f vs i done → f i (view (get_or vs i v)) ≡ Err e → each_of f 0 (items_view vs) ≡ Err e
HasRead-stop f vs i done v e h r q =
    let rest = each_of f (i + 1) (items_view (drop (i + 1) vs)) in
    r.so_far ∙ ap (after done) (each_of-step f vs i v h ∙ ap (λ y. y >>= (λ x. rest >>= (λ xs. Ok (x ∷ xs)))) q)

-- all values are read
pub HasRead-end : {A : Type 0} (f : ℕ → Data → Result A Fault) (vs : List (Value Global)) (i : ℕ) (done : List A) → length vs ≤ i
    → HasRead f vs i done → each_of f 0 (items_view vs) ≡ Ok done
HasRead-end f vs i done h r =
    r.so_far ∙ ap (λ ds. after done (each_of f i (items_view ds))) (drop_all i vs h) ∙ ap Ok (append-nil done)

-- the list has as many elements as its view
pub items_len_view : (vs : List (Value Global)) → items_len (items_view vs) ≡ length vs
items_len_view [] = refl
items_len_view (v ∷ vs) = omega (arith, items_len_view vs)

-- the same of a list whose elements are taken out of it: what is left is read behind what was read
pub record ReadsOn {A : Type 0} (f : ℕ → Data → Result A Fault) (vs rest : List (Value Global)) (i : ℕ) (done : List A) : Type 0 where
  pub so_far : each_of f 0 (items_view vs) ≡ after done (each_of f i (items_view rest))

pub ReadsOn-start : {A : Type 0} (f : ℕ → Data → Result A Fault) (vs rest : List (Value Global)) → rest ≡ vs → ReadsOn f vs rest 0 []
ReadsOn-start f vs rest same = record { so_far = after-nil (each_of f 0 (items_view vs)) ∙ ap (λ xs. after [] (each_of f 0 (items_view xs))) (sym same) }

taken-step : {A : Type 0} (f : ℕ → Data → Result A Fault) (rest left : List (Value Global)) (i : ℕ) (v : Value Global) → rest ≡ v ∷ left
    → each_of f i (items_view rest) ≡ (f i (view v) >>= (λ x. each_of f (i + 1) (items_view left) >>= (λ xs. Ok (x ∷ xs))))
taken-step f rest left i v same = ap (λ xs. each_of f i (items_view xs)) same ∙ rw add-one refl

pub ReadsOn-more : {A : Type 0} (f : ℕ → Data → Result A Fault) (vs rest left : List (Value Global)) (i : ℕ) (done : List A) (v : Value Global) (x : A) → rest ≡ v ∷ left
    → ReadsOn f vs rest i done → f i (view v) ≡ Ok x → ReadsOn f vs left (i + 1) (done ++ x ∷ [])
ReadsOn-more f vs rest left i done v x same r e =
    let later = each_of f (i + 1) (items_view left) in
    record { so_far = r.so_far ∙ ap (after done) (taken-step f rest left i v same ∙ ap (λ y. y >>= (λ x. later >>= (λ xs. Ok (x ∷ xs)))) e) ∙ after-push done x later }

pub ReadsOn-stop : {A : Type 0} (f : ℕ → Data → Result A Fault) (vs rest left : List (Value Global)) (i : ℕ) (done : List A) (v : Value Global) (e : Fault) → rest ≡ v ∷ left
    → ReadsOn f vs rest i done → f i (view v) ≡ Err e → each_of f 0 (items_view vs) ≡ Err e
ReadsOn-stop f vs rest left i done v e same r q =
    let later = each_of f (i + 1) (items_view left) in
    r.so_far ∙ ap (after done) (taken-step f rest left i v same ∙ ap (λ y. y >>= (λ x. later >>= (λ xs. Ok (x ∷ xs)))) q)

pub ReadsOn-end : {A : Type 0} (f : ℕ → Data → Result A Fault) (vs rest : List (Value Global)) (i : ℕ) (done : List A) → rest ≡ []
    → ReadsOn f vs rest i done → each_of f 0 (items_view vs) ≡ Ok done
ReadsOn-end f vs rest i done none r =
    r.so_far ∙ ap (λ xs. after done (each_of f i (items_view xs))) none ∙ ap Ok (append-nil done)
