-- Which receipts of a put make a quorum.
use Rattle.std.specs.Prelude.{◌≡◌, List, ℕ, length, map, nat_eq}
use Rattle.std.specs.List.{All, Contains, IsDistinct}
use Rattle.dy_shares.specs.Shares.{ReceiptParts}

-- what a tally is seen as: how many homes its put needs, for how many receipts there is room, and
-- the receipts added, in order
pub record Counted : Type 0 where
  pub w : ℕ
  pub room : ℕ
  pub added : List ReceiptParts

-- one key and one dot, and one home where the holder is one
abbrev pub Agrees : ReceiptParts → ReceiptParts → Type 0
Agrees r x = (r.key ≡ x.key) × (r.dot ≡ x.dot) × (r.holder ≡ x.holder → r.home ≡ x.home)

-- the receipt agrees with each of these
abbrev pub FitsAll : List ReceiptParts → ReceiptParts → Type 0
FitsAll rs x = All (λ r. Agrees r x) rs

-- w of these receipts, of distinct homes and distinct holders
pub record IsChoice (w : ℕ) (rs c : List ReceiptParts) : Type 0 where
  pub count : length c ≡ w
  pub among : All (λ x. Contains rs x) c
  pub homes : IsDistinct nat_eq (map (λ r. r.home) c)
  pub holders : IsDistinct nat_eq (map (λ r. r.holder) c)

-- there are such w
abbrev pub CanChoose : ℕ → List ReceiptParts → Type 0
CanChoose w rs = (c : List ReceiptParts) × IsChoice w rs c

-- w of these receipts, of distinct homes
pub record IsChoiceOfHomes (w : ℕ) (rs c : List ReceiptParts) : Type 0 where
  pub count : length c ≡ w
  pub among : All (λ x. Contains rs x) c
  pub homes : IsDistinct nat_eq (map (λ r. r.home) c)

-- any two of the receipts agree
abbrev pub DoAgree : List ReceiptParts → Type 0
DoAgree rs = (r x : ReceiptParts) → Contains rs r → Contains rs x → Agrees r x
