-- How the homes of receipts are counted.
use Rattle.std.specs.Prelude.{◌≡◌, List, ℕ, map}
use Rattle.std.specs.List.{AllPairs}
use Rattle.dy_shares.specs.Shares.{ReceiptParts}
use Rattle.dy_quorum.specs.Firsts.{firsts_by, AreFirstsBy}

-- two receipts of distinct holders
abbrev pub HoldersDiffer : ReceiptParts → ReceiptParts → Type 0
HoldersDiffer x y = x.holder ≡ y.holder → ⊥

-- the homes of receipts
abbrev pub receipt_homes : List ReceiptParts → List ℕ
receipt_homes rs = map (λ r. r.home) rs

-- the first receipt of each home
abbrev pub firsts : List ReceiptParts → List ReceiptParts
firsts rs = firsts_by (λ r. r.home) rs

-- these are the first of each home, and of distinct holders
pub record IsCount (rs fs : List ReceiptParts) : Type 0 where
  pub firsts_are : AreFirstsBy (λ r. r.home) rs fs
  pub holders : AllPairs HoldersDiffer fs
