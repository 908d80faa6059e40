use Rattle.std.proofs.Common.{sym, ap, ◌∙◌, subst, IsTrue}
use Rattle.std.specs.FinMap as maps
use Rattle.std.proofs.lemmas.List.Elements.{All-nil}
use Rattle.dy_preference.specs.Preferences.{homes_of, may_hold}
use Rattle.dy_node.specs.Nodes.{AreDeferred}
use Rattle.dy_node.specs.declared.messages.Message.{Message}
use Rattle.dy_node.proofs.Kept.{first_shows}
use Rattle.dy_node.proofs.nodes.Node.new.Goals as goal

-- nothing was done, and nothing is kept
pub invariant_of-result : goal.invariant_of-result
invariant_of-result g c =
    let ring = g.J.Naming.ring in
    let n = g.J.Naming.n in (
      first_shows c.args.share c.new-stores.result c.requires
          (c.new-stores.ensures ∙ ap
          (λ k. record {
            rooms = record { node = k; rows = maps.empty; hints = maps.empty };
            counters = maps.empty;
          }) c.node.ensures.value),
      subst (AreDeferred ring n c.args.share.node) (sym c.new.ensures.items)
          (All-nil (λ (m : Message). IsTrue
          (may_hold (homes_of ring n m.row.key) c.args.share.node m.home))),
    )
