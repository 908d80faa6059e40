use Rattle.std.proofs.Common.{rules, ◌+◌, ◌∙◌, ap, length, take}
use Rattle.dy_book.specs.Audits.{count_acks}
use Rattle.dy_book.proofs.Ending.{count_more}
use Rattle.dy_book.proofs.closes.acks_told.Goals as goal

pub loop-session-preserved : goal.loop-session-preserved
loop-session-preserved g c =
    record {
      sum = ap (λ n. n + c.acks.result) c.loop-session.invariant.sum
          ∙ ap (λ n. count_acks (take c.loop-session.session-index c.args.sessions.now) + n)
          c.acks.ensures
          ∙ count_more (λ s. length s.acks) c.args.sessions.now c.loop-session.session-index
          c.session-item.result c.loop-session-test.true c.session-item.is;
      bound = search rules;
    }
