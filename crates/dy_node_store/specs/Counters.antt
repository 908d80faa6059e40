-- The counters that a node has used, by key.
use Rattle.std.specs.Prelude.{ℕ, List, max, unwrap_or}
use Rattle.std.specs.Ordering.{nat_cmp}
use Rattle.std.specs.Cmp.Lexicographic.{slice_cmp}
use Rattle.std.specs.Coded.{Coded, coded_ℕ, coded_list}
use Rattle.std.specs.FinMap as map

-- counters by the bytes of their keys
abbrev pub Counters : Type 0
Counters = map.FinMap (slice_cmp nat_cmp) ℕ

-- how counters are told apart
abbrev pub counters_code : Coded Counters
counters_code = map.code (coded_list coded_ℕ) coded_ℕ

-- the greatest counter that was used for the key, or 0
abbrev pub greatest_used : Counters → List ℕ → ℕ
greatest_used counters key = unwrap_or (map.get counters key) 0

-- the counters with this one used too
abbrev pub with_used : Counters → List ℕ → ℕ → Counters
with_used counters key counter = map.insert counters key (max (greatest_used counters key) counter)
