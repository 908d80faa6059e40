use Rattle.std.proofs.Common.{rules, ◌+◌, ◌∙◌, ap, length, take}
use Rattle.dy_book.specs.Audits.{count_gets}
use Rattle.dy_book.proofs.Ending.{count_more}
use Rattle.dy_book.proofs.closes.gets_of.Goals as goal

pub loop-session-preserved : goal.loop-session-preserved
loop-session-preserved g c =
    record {
      sum = ap (λ n. n + c.gets.result) c.loop-session.invariant.sum
          ∙ ap (λ n. count_gets (take c.loop-session.session-index c.args.sessions.now) + n)
          c.gets.ensures
          ∙ count_more (λ s. length s.gets) c.args.sessions.now c.loop-session.session-index
          c.session-item.result c.loop-session-test.true c.session-item.is;
      bound = search rules;
    }
