use Rattle.std.proofs.Common.{◌+◌, ◌%◌, ◌^◌, IfOk, subst}
use Rattle.std.specs.declared.marker.Brand.{Brand as BrandParts}
use Rattle.dy_ring.specs.Rings.{Tokens}
use Rattle.dy_book.specs.declared.options.Options.{Options}
use Rattle.dy_cluster.specs.Settings.{setting}
use Rattle.dy_clients.specs.Runs.{HaveRun}
use Rattle.dy_clients.specs.declared.clients_done.ClientsDone.{ClientsDone}
use Rattle.dy_storm.specs.Seeds.{generator_of}
use Rattle.dy_storm.specs.Turns.{AreTurns}
use Rattle.dy_plans.specs.declared.storms.Storm.{Storm}
use Rattle.dy_storm.proofs.storms.run.Goals as goal

-- the clients of the plan ran on a cluster of these options
abbrev AreRun : Tokens → Storm → ClientsDone → Options → Type 0
AreRun ring plan done options =
    HaveRun ring options plan.threads (λ number answer telling.
    AreTurns (setting BrandParts ring options.n options.r options)
    (generator_of ((plan.seed + number) % 2 ^ 64)) number plan.puts telling) done

-- the options are those of each storm
pub returns-then-not-clients-clause-run : goal.returns-then-not-clients-clause-run
returns-then-not-clients-clause-run g c =
    subst (λ (o : Options). IfOk c.with_workers.result
    (λ done. AreRun c.args.ring c.args.clients.now.plan done o))
    c.options.ensures c.with_workers.ensures.closed

pub returns-clause-run : goal.returns-clause-run
returns-clause-run g c =
    subst (λ (o : Options). IfOk c.with_operator.result
    (λ done. AreRun c.args.ring c.args.clients.now.plan done o))
    c.options-2.ensures c.with_operator.ensures.closed
