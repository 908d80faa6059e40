-- What is kept of an ask, and which answers are ones to it.
use Rattle.std.specs.Prelude.{◌≡◌, ℕ, List, map, Option, None, Some}
use Rattle.std.specs.List.{All}
use Rattle.std.specs.Option.{option_to_list}
use Rattle.dy_dots.specs.declared.dots.Dot.{Dot}
use Rattle.dy_siblings.specs.declared.versions.Version.{Version}
use Rattle.dy_shares.specs.Shares.{ReceiptParts, receipt_parts}
use Rattle.dy_transport.specs.declared.asked.What.{What}
use Rattle.dy_transport.specs.declared.asked.What.TheVariants as what
use Rattle.dy_sheets.specs.declared.dot_lists.DotList.{DotList}
use Rattle.dy_sheets.specs.declared.dot_lists.DotList.TheVariants.{Few, Many}
use Rattle.dy_sheets.specs.declared.kept.Kept.{Kept}
use Rattle.dy_sheets.specs.declared.kept.Kept.TheVariants.{Store, Fetch}

-- the dots in a list
abbrev pub dots_in : DotList → List Dot
dots_in (Few one) = option_to_list one
dots_in (Many many) = many.items

-- the versions are of this key, and have these dots
abbrev pub AreNamed : List Version → List ℕ → List Dot → Type 0
AreNamed vs key dots = All (λ v. v.key ≡ key) vs × (dots ≡ map (λ v. v.dot) vs)

-- a receipt for each dot of the key, in their order, of this holder for this home
abbrev pub receipts_at : List ℕ → List Dot → ℕ → ℕ → List ReceiptParts
receipts_at key dots holder home = map (λ dot. receipt_parts key dot holder home) dots

-- what is kept of an ask names what was asked, where there was memory for it
abbrev pub IsKept : What → Option Kept → Type 0
IsKept w None = Unit {0}
IsKept (what.Store row) (Some (Store key dots)) = AreNamed row.value.versions key (dots_in dots)
IsKept (what.Store row) (Some (Fetch key since)) = ⊥
IsKept (what.Fetch key since) (Some (Store same dots)) = ⊥
IsKept (what.Fetch key since) (Some (Fetch same at)) = (key.value ≡ same) × (since ≡ at)
