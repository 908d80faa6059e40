-- the line of the renewal is written behind what was put, and its steps below it
use Rattle.std.proofs.Common.{◌++◌, ap, rules}
use Rattle.std.proofs.KnownBytes.{Appends-kept, Appends-trans}
use Rattle.std.specs.Io.KnownBytes.{Appends}
use Rattle.dy_cluster.specs.Settings.{setting}
use Rattle.dy_lines.specs.Served.{renewed_text}
use Rattle.dy_lines.specs.Texts.{line}
use Rattle.dy_serve.proofs.Lowering.{goes_so}
use Rattle.dy_serve.proofs.services.go_on.Goals as goal

pub returns-clause-wrote : goal.returns-clause-wrote
returns-clause-wrote g c =
    let contents = g.O.Write.contents in
    let opened = c.args.opened.now in
    let put = c.carry.new.self in
    let now = c.write_below.new.self in
    let carried = c.in_ok-carried.carried in
    let below = c.in_ok-write_below.ensures.below in
    let wrote : Appends (contents c.args.out.now) (contents c.writeln.new.self)
    (line (renewed_text c.args.number carried)) = search rules in (
      line (renewed_text c.args.number carried) ++ below.0,
      goes_so (setting g.row.J.Denot g.J.Naming.ring g.J.Naming.n g.J.Naming.r
          c.args.lent.now.cluster.now.options) opened.terms.ways put.terms.ways c.args.closed.now
          c.args.number carried opened.runner.seats put.runner.seats now.runner.seats
          c.args.lent.now.sessions.items c.carry.new.lent.sessions.items opened.mark put.mark
          now.mark below.0 c.requires.none c.in_ok-carried.ensures.carried
          c.in_ok-write_below.ensures.seats (ap (λ t. t.ways) c.carry.ensures.terms)
          c.carry.ensures.mark below.1,
      Appends-kept _ _ _ _ (Appends-trans _ _ _ _ _ wrote below.2) c.in_ok-flush.ensures.bytes,
    )
