-- Receipts for versions of one key are those for their dots.
use Rattle.std.proofs.Common.{◌≡◌, [], ◌∷◌, List, ℕ, ap, map, refl, sym, ◌∙◌}
use Rattle.std.proofs.lemmas.List.Elements.{All-head, All-tail}
use Rattle.std.specs.List.{All}
use Rattle.dy_dots.specs.declared.dots.Dot.{Dot}
use Rattle.dy_siblings.specs.declared.versions.Version.{Version}
use Rattle.dy_shares.specs.Shares.{ReceiptParts, receipt_parts}
use Rattle.dy_book.specs.Books.{receipts_of}
use Rattle.dy_sheets.specs.Kept.{AreNamed, receipts_at}

of_one_key : (vs : List Version) (key : List ℕ) (to home : ℕ) → All (λ v. v.key ≡ key) vs →
    receipts_at key (map (λ v. v.dot) vs) to home ≡ receipts_of vs to home
of_one_key [] key to home h = refl
of_one_key (v ∷ vs) key to home h =
    let P : Version → Type 0 = λ u. u.key ≡ key in
    ap (λ k. receipt_parts k v.dot to home ∷ receipts_at key (map (λ u. u.dot) vs) to home)
    (sym (All-head P v vs h))
    ∙ ap (λ (rs : List ReceiptParts). receipt_parts v.key v.dot to home ∷ rs)
    (of_one_key vs key to home (All-tail P v vs h))

-- so the receipts that are held against what is kept are those for the row
pub receipts_named : (vs : List Version) (key : List ℕ) (dots : List Dot) (to home : ℕ) →
    AreNamed vs key dots → receipts_at key dots to home ≡ receipts_of vs to home
receipts_named vs key dots to home h =
    ap (λ ds. receipts_at key ds to home) h.1 ∙ of_one_key vs key to home h.0
