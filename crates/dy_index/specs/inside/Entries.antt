-- The entries of the index in the order of their keys.
use Rattle.std.specs.Prelude.{◌≡◌, ℕ, List, Some}
use Rattle.std.specs.Coded.{Coded, coded×, coded_ℕ, coded_list}
use Rattle.std.specs.List.{All, Contains}
use Rattle.std.specs.List.Sorted.{IsStrictlySortedBy}
use Rattle.std.specs.declared.cmp.Ordering.{Ordering}
use Rattle.dy_core.specs.Orders.{key_cmp}
use Rattle.dy_index.specs.contracts.parts.KeyPart as key_part
use Rattle.dy_index.specs.declared.parts.KeyPart.{KeyPart}
use Rattle.dy_index.specs.Indexes.{part_at}

-- an entry as plain data
abbrev pub entry_code : Coded (List ℕ × KeyPart)
entry_code = coded× (coded_list coded_ℕ) key_part.the_row.coded

-- entries go by their keys
abbrev pub entry_cmp : List ℕ × KeyPart → List ℕ × KeyPart → Ordering
entry_cmp e f = key_cmp e.0 f.0

-- these are what the index has at each key, by the bytes of the keys
pub record AreByKey (entries es : List (List ℕ × KeyPart)) : Type 0 where
  pub found : All (λ e. part_at entries e.0 ≡ Some e.1) es
  pub has : (key : List ℕ) (p : KeyPart) → part_at entries key ≡ Some p → Contains es (key, p)
  pub in_order : IsStrictlySortedBy entry_cmp es
