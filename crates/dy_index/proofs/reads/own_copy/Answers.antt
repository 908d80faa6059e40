-- Keys of the same bytes are the same.
use Rattle.std.proofs.Common.{◌≡◌, List, ℕ, IfOk, sym, subst}
use Rattle.dy_siblings.proofs.SameKeys.{same_key_is}
use Rattle.dy_index.proofs.reads.own_copy.Goals as goal

pub returns-in-Some-get_key_value-clause-value : goal.returns-in-Some-get_key_value-clause-value
returns-in-Some-get_key_value-clause-value c =
    let same : c.args.key.now ≡ c.in-Some-get_key_value.own.now =
    same_key_is c.args.key.now c.in-Some-get_key_value.own.now
    c.in-Some-get_key_value.ensures.same_key in
    subst (λ (k : List ℕ). IfOk c.try_clone.result (λ copy. copy ≡ k)) (sym same)
    c.try_clone.ensures.value
