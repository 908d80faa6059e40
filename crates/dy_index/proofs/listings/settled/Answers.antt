use Rattle.std.proofs.Common.{subst}
use Rattle.std.specs.Cmp.Lexicographic.{nat_list_cmp_total, nat_list_eq_equiv}
use Rattle.std.proofs.lemmas.Map.Views.{hash_map_get_iff}
use Rattle.dy_siblings.proofs.SameKeys.{same_key_is}
use Rattle.dy_core.specs.Orders.{key_cmp}
use Rattle.dy_index.specs.Lists.{IsInOrder}
use Rattle.dy_index.proofs.Settling.{settled_listed}
use Rattle.dy_index.proofs.listings.settled.Goals as goal

pub ordered-requires : goal.ordered-requires
ordered-requires c = nat_list_cmp_total

pub returns-clause-ok : goal.returns-clause-ok
returns-clause-ok c = λ layout steps legal index.
    let keys = c.args.keys.now in
    settled_listed layout steps legal keys.entries index c.in_ok-listed.ensures.found
    (λ key p is. (hash_map_get_iff nat_list_eq_equiv same_key_is keys
    c.in_ok-listed.ensures.unique key p).0 is)
    c.in_ok-settled.settled.items
    (subst (λ xs. IsInOrder key_cmp xs c.in_ok-settled.settled.items) c.in_ok-listed.ensures.ok
    c.in_ok-settled.ensures.ok)
