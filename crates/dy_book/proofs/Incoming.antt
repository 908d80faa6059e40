-- What refuses a row that came, and the receipts of its versions.
use Rattle.std.proofs.Common.{◌≡◌, ℕ, ◌+◌, ◌<◌, ◌↔◌, List, []}
use Rattle.std.proofs.Common.{◌∷◌, ◌++◌, Result, Err, length, get_or, take, refl}
use Rattle.std.proofs.Common.{sym, ap, ◌∙◌}
use Rattle.dy_dots.specs.declared.faults.Fault.{Fault}
use Rattle.dy_dots.specs.declared.faults.Fault.TheVariants.{NotIssued, StepsFull}
use Rattle.std.proofs.lemmas.List.{take_more}
use Rattle.dy_dots.specs.declared.dots.Dot.{Dot}
use Rattle.dy_siblings.specs.declared.versions.Version.{Version}
use Rattle.dy_shares.specs.Shares.{ReceiptParts, receipt_parts}
use Rattle.std.specs.Result.{IsErrOf}
use Rattle.dy_book.specs.Books.{receipts_of}

-- the receipts of a list with a version at its end
pub map_last : (holder home : ℕ) (xs : List Version) (v : Version) →
    receipts_of (xs ++ v ∷ []) holder home ≡ receipts_of xs holder home ++ receipt_parts v.key v.dot
    holder home ∷ []
map_last holder home [] v = refl
map_last holder home (x ∷ xs) v =
    ap (λ rs. receipt_parts x.key x.dot holder home ∷ rs) (map_last holder home xs v)

-- a receipt more
pub given_more : (vs : List Version) (i : ℕ) (v : Version) → i < length vs → v ≡ get_or vs i v →
    (holder home : ℕ) (rs : List ReceiptParts) (r : ReceiptParts) →
    rs ≡ receipts_of (take i vs) holder home → r ≡ receipt_parts v.key v.dot holder home →
    rs ++ r ∷ [] ≡ receipts_of (take (i + 1) vs) holder home
given_more vs i v lt is holder home rs r so_far this =
    (λ j. so_far j ++ this j ∷ [])
    ∙ (sym (map_last holder home (take i vs) v)
    ∙ ap (λ xs. receipts_of xs holder home)
    (ap (λ x. take i vs ++ x ∷ []) is ∙ sym (take_more vs i v lt)))

module _ {T : Type 0} where
  abbrev refusal : Fault → Result T Fault
  refusal f = Err f

  pub same_named : (d e : Dot) → refusal (NotIssued d) ≡ refusal (NotIssued e) → d ≡ e
  same_named d e is = cc

  refused_as : (f e : Fault) → refusal f ≡ refusal e → f ≡ e
  refused_as f e is = cc

  pub full_not_named : (d : Dot) → refusal StepsFull ≡ refusal (NotIssued d) → ⊥
  full_not_named d is = cc

-- what a refusal tells does not depend on what was asked for
pub told_as : {A B : Type 0} (f e : Fault) (P : Type 0) →
    (IsErrOf {T = A} {E = Fault} (Err f) e ↔ P) → IsErrOf {T = B} {E = Fault} (Err f) e ↔ P
told_as {A} {B} f e P told = (
  (λ is. told.0 (ap Err (refused_as {T = B} f e is))),
  (λ p. ap Err (refused_as {T = A} f e (told.1 p))),
)
