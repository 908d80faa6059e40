use Rattle.std.proofs.Common.{◌∙◌, ap}
use Rattle.std.specs.FinMap as maps
use Rattle.dy_hint_store.specs.Hints.{home_then_key}
use Rattle.dy_node.proofs.stores.Stores.new.Goals as goal

pub invariant_of-result : goal.invariant_of-result
invariant_of-result c = λ key. ap (λ m. maps.get m (c.args.node, key)) c.new-2.ensures
    ∙ maps.get-empty home_then_key (c.args.node, key)
