use Rattle.std.proofs.Common.{◌≡◌, ◌+◌, ◌*◌, ◌≤◌, ◌%◌, ◌^◌, ◌∙◌, ap, arith, subst}
use Rattle.std.specs.declared.marker.Brand.{Brand as BrandParts}
use Rattle.dy_book.specs.Audits.{count_acks, count_gets}
use Rattle.dy_cluster.specs.Settings.{setting}
use Rattle.dy_clients.specs.Tellings.{as_fact}
use Rattle.dy_storm.specs.Clusters.{storm_options}
use Rattle.dy_storm.specs.Seeds.{generator_of}
use Rattle.dy_storm.specs.Turns.{AreTurns}
use Rattle.dy_plans.specs.declared.storms.Storm.{Storm}
use Rattle.dy_storm.proofs.Counting.{turns_most}
use Rattle.dy_storm.proofs.storms.storm_on.Goals as goal

-- the sessions were told no more than two for each turn
pub of-counts-requires : goal.of-counts-requires
of-counts-requires g c =
    let ran = c.in_ok-closed.ensures.run in
    let tells = ran.closed.1.audit.tells in
    let plan = c.new-clients.result.plan in
    let threads = plan.threads in
    let most : count_acks ran.tellings + count_gets ran.tellings ≤ 2 * threads * plan.puts =
    turns_most _ (λ number. generator_of ((plan.seed + number) % 2 ^ 64)) threads plan.puts
    ran.tellings ran.sessions (λ number telling there. (ran.told number telling there).2) in
    let same : 2 * threads * plan.puts ≡ 2 * c.args.plan.threads * c.args.plan.puts =
    ap (λ (p : Storm). 2 * p.threads * p.puts) c.new-clients.ensures in
    record { most = omega (arith, tells.acks, tells.gets, most, same) }

-- all that the run says is said of the plan's clients
pub returns-clause-stormed : goal.returns-clause-stormed
returns-clause-stormed g c =
    let ran = c.in_ok-closed.ensures.run in
    let tells = ran.closed.1.audit.tells in
    let counts = c.of-counts.ensures in
    record {
      tellings = ran.tellings;
      closed = ran.closed;
      options = ran.options_are;
      restored = c.in_ok-check_restored.ensures.ok;
      sessions = ran.sessions ∙ ap (λ (p : Storm). p.threads) c.new-clients.ensures;
      turns = λ number telling there.
          subst (λ (p : Storm). as_fact (λ number telling.
          AreTurns (setting BrandParts c.args.ring 3 2 storm_options)
          (generator_of ((p.seed + number) % 2 ^ 64)) number p.puts telling) number telling)
          c.new-clients.ensures (ran.told number telling there).2;
      told = (counts.acked ∙ tells.acks, counts.gets ∙ tells.gets);
      all = counts.all;
    }
