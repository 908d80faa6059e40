use Rattle.std.proofs.Common.{rules, ◌≡◌}
use Rattle.std.specs.Borrow.{Bor}
use Rattle.std.specs.Cmp.Lexicographic.{slice_cmp, nat_list_cmp_total}
use Rattle.std.specs.Ordering.{nat_cmp, is_lt}
use Rattle.std.proofs.lemmas.Fn.{always_returns_same}
use Rattle.std.proofs.lemmas.List.Sorted.{ranks_by}
use Rattle.dy_siblings.specs.Siblings.{Siblings}
use Rattle.dy_node_store.proofs.row_maps.sort.Goals as goal

-- the closure answers by the keys
pub returns-clause-sorted : goal.returns-clause-sorted
returns-clause-sorted c =
    c.sort_unstable_by.ensures.sorted
    (λ (x y : Bor Siblings). is_lt (slice_cmp nat_cmp x.now.key y.now.key))
    (ranks_by nat_list_cmp_total (λ (row : Bor Siblings). row.now.key))
    (always_returns_same _ (λ a r. is_lt r ≡ is_lt (slice_cmp nat_cmp a.0.now.now.key a.1.0.now.now.key)) _
    (λ a r f' k. search rules))
