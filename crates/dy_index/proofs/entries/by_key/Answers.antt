use Rattle.std.proofs.Common.{List, ℕ, subst}
use Rattle.std.specs.Cmp.{on_total}
use Rattle.std.specs.Cmp.Lexicographic.{nat_list_cmp_total, nat_list_eq_equiv}
use Rattle.std.proofs.lemmas.Map.Views.{hash_map_get_iff}
use Rattle.dy_siblings.proofs.SameKeys.{same_key_is}
use Rattle.dy_index.specs.declared.parts.KeyPart.{KeyPart}
use Rattle.dy_index.specs.Lists.{IsInOrder}
use Rattle.dy_index.specs.inside.Entries.{entry_cmp}
use Rattle.dy_index.proofs.Listing.{entries_in_order}
use Rattle.dy_index.proofs.entries.by_key.Goals as goal

pub ordered-requires : goal.ordered-requires
ordered-requires c = on_total (λ (e : List ℕ × KeyPart). e.0) nat_list_cmp_total

pub returns-clause-ok : goal.returns-clause-ok
returns-clause-ok c =
    let keys = c.args.keys.now in
    entries_in_order keys.entries c.in_ok-entries.ensures.found
    (λ key p is. (hash_map_get_iff nat_list_eq_equiv same_key_is keys
    c.in_ok-entries.ensures.unique key p).0 is)
    c.in_ok-sorted.sorted.items
    (subst (λ xs. IsInOrder entry_cmp xs c.in_ok-sorted.sorted.items) c.in_ok-entries.ensures.ok
    c.in_ok-sorted.ensures.ok)
