use Rattle.std.proofs.Common.{map, subst}
use Rattle.std.specs.List.{All}
use Rattle.dy_hint_store.specs.Hints.{shown}
use Rattle.dy_node.specs.Stored.{Stored}
use Rattle.dy_node.specs.inside.Placing.{IsHintOf}
use Rattle.dy_node.proofs.HintLemmas.{kept_shown}
use Rattle.dy_node.proofs.stores.Stores.list.Goals as goal

-- the node has no hint for itself
pub returns-clause-kept : goal.returns-clause-kept
returns-clause-kept c =
    subst (λ (s : Stored). All (IsHintOf s.rooms) (map shown c.in_ok-hints.hints.items))
    c.self.view_is
    (kept_shown (record {
      node = c.self.inside.node;
      rows = c.self.inside.own.rows;
      hints = c.self.inside.hints;
    }) c.self.invariant c.in_ok-hints.hints.items c.in_ok-hints.ensures.kept)
