-- Lists of which a part is known to be in range.
use Rattle.std.proofs.Common.{◌≡◌, ℕ, ◌+◌, ◌<◌, ◌≤◌, List, length, get_or, drop, true, false, ◌&&◌, Global, Bor, refl, ap, ◌∙◌, add-one, drop-cons}
use Rattle.std.proofs.lemmas.List.{drop_all}
use Rattle.json.specs.Value.{value_view, items_view, members_view}
use Rattle.json.specs.declared.value.Value.{Value}
use Rattle.dy_script.specs.inside.Documents.{in_range, items_in_range, members_in_range}

abbrev Entry : Type 0
Entry = Bor (List ℕ) × Value Global

-- the first i items are in range
pub record AreInRange (vs : List (Value Global)) (i : ℕ) : Type 0 where
  pub so_far : items_in_range (items_view vs) ≡ items_in_range (items_view (drop i vs))

pub AreInRange-start : (vs : List (Value Global)) → AreInRange vs 0
AreInRange-start vs = record { so_far = refl }

items_step : (vs : List (Value Global)) (i : ℕ) (v : Value Global) → i < length vs
    → items_in_range (items_view (drop i vs)) ≡ (in_range (value_view (get_or vs i v)) && items_in_range (items_view (drop (i + 1) vs)))
items_step vs i v h = rw (drop-cons vs i v h, add-one) refl

pub AreInRange-more : (vs : List (Value Global)) (i : ℕ) (v : Value Global) → i < length vs → AreInRange vs i
    → in_range (value_view (get_or vs i v)) ≡ true → AreInRange vs (i + 1)
AreInRange-more vs i v h r e =
    record { so_far = r.so_far ∙ items_step vs i v h ∙ ap (λ b. b && items_in_range (items_view (drop (i + 1) vs))) e }

pub AreInRange-stop : (vs : List (Value Global)) (i : ℕ) (v : Value Global) → i < length vs → AreInRange vs i
    → in_range (value_view (get_or vs i v)) ≡ false → items_in_range (items_view vs) ≡ false
AreInRange-stop vs i v h r e =
    r.so_far ∙ items_step vs i v h ∙ ap (λ b. b && items_in_range (items_view (drop (i + 1) vs))) e

pub AreInRange-end : (vs : List (Value Global)) (i : ℕ) → length vs ≤ i → AreInRange vs i → items_in_range (items_view vs) ≡ true
AreInRange-end vs i h r = r.so_far ∙ ap (λ ds. items_in_range (items_view ds)) (drop_all i vs h)

-- the first i members are in range
pub record HaveRange (ms : List Entry) (i : ℕ) : Type 0 where
  pub so_far : members_in_range (members_view ms) ≡ members_in_range (members_view (drop i ms))

pub HaveRange-start : (ms : List Entry) → HaveRange ms 0
HaveRange-start ms = record { so_far = refl }

members_step : (ms : List Entry) (i : ℕ) (m : Entry) → i < length ms
    → members_in_range (members_view (drop i ms)) ≡ (in_range (value_view (get_or ms i m).1) && members_in_range (members_view (drop (i + 1) ms)))
members_step ms i m h = rw (drop-cons ms i m h, add-one) refl

pub HaveRange-more : (ms : List Entry) (i : ℕ) (m : Entry) → i < length ms → HaveRange ms i
    → in_range (value_view (get_or ms i m).1) ≡ true → HaveRange ms (i + 1)
HaveRange-more ms i m h r e =
    record { so_far = r.so_far ∙ members_step ms i m h ∙ ap (λ b. b && members_in_range (members_view (drop (i + 1) ms))) e }

pub HaveRange-stop : (ms : List Entry) (i : ℕ) (m : Entry) → i < length ms → HaveRange ms i
    → in_range (value_view (get_or ms i m).1) ≡ false → members_in_range (members_view ms) ≡ false
HaveRange-stop ms i m h r e =
    r.so_far ∙ members_step ms i m h ∙ ap (λ b. b && members_in_range (members_view (drop (i + 1) ms))) e

pub HaveRange-end : (ms : List Entry) (i : ℕ) → length ms ≤ i → HaveRange ms i → members_in_range (members_view ms) ≡ true
HaveRange-end ms i h r = r.so_far ∙ ap (λ ds. members_in_range (members_view ds)) (drop_all i ms h)
