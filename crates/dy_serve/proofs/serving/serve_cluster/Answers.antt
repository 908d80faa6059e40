-- what was served in the cluster, and how it was closed
use Rattle.std.proofs.Common.{◌∙◌, ◌++◌, refl}
use Rattle.dy_plans.specs.AuditLines.{audit_lines}
use Rattle.dy_serve.specs.Below.{standing}
use Rattle.dy_serve.proofs.serving.serve_cluster.Goals as goal

pub returns-clause-served : goal.returns-clause-served
returns-clause-served g c =
    let script = c.args.setup.now.script.now in
    let served = c.in_ok-closed.ensures.served in
    let closed = c.in_ok-closed.closed in
    let behind = served.2 in
    let left = c.in_ok-write_closing.ensures.written served.1 (record {
      log = behind.rest.book.log;
      count = served.3;
      begins = behind.begins;
      history = behind.ended.audit.tells.history;
    }) in
    record {
      stands = standing c.close_served.new.progress.seats served.0 served.1;
      between = g.O.Write.contents c.close_served.new.out;
      served = served.4;
      last = closed;
      last_is = refl;
      closing = left.0 ++ audit_lines script.w script.settled closed.audit;
      closed_so = record {
        ended = (behind.rest, behind.ended);
        options = c.in_ok-closed.ensures.options ∙ c.requires.planned.options;
        rest = left.0;
        left = left.1;
        text_is = refl;
      };
      wrote = left.2;
    }
