-- A share that the book agrees with stays as it is, and belongs to the log.
use Rattle.std.proofs.Common.{◌≡◌, ◌<◌, length, get_or, set, sym, ap, ◌∙◌, subst, arith}
use Rattle.std.proofs.lemmas.List.{set-get_or, take_all}
use Rattle.std.proofs.lemmas.Result.{IfOk-weaker}
use Rattle.std.specs.List.{All}
use Rattle.dy_core.specs.Worlds.{layout_of}
use Rattle.dy_core.specs.Logs.{IsLegal}
use Rattle.dy_shares.specs.Shares.{SessionBelongsTo, steps_of}
use Rattle.dy_shares.proofs.Later.{all_more}
use Rattle.dy_book.specs.Audits.{TellsNow}
use Rattle.dy_cluster.proofs.books.audit_of.Goals as goal

pub loop-session-preserved : goal.loop-session-preserved
loop-session-preserved g c =
    let l = c.loop-session in
    let at = l.session-index in
    let one = c.session-item.result in
    let r = g.J.Naming.r in
    let low : at < length c.args.sessions.now =
    let same = l.auto.sessions in let test = c.loop-session-test.true in
    omega (arith, same, test) in
    record {
      book = c.agree_session.ensures.book ∙ l.invariant.book;
      same =
          ap (set l.sessions at) c.agree_session.ensures.share
          ∙ (set-get_or l.sessions at one ∙ l.invariant.same);
      belong =
          all_more (SessionBelongsTo c.args.book.now.log r) c.args.sessions.now at one low
          (c.session-item.is ∙ ap (λ xs. get_or xs at one) l.invariant.same) l.invariant.belong
          (subst (λ b. SessionBelongsTo b.log r one) l.invariant.book
          (subst (SessionBelongsTo l.book.log r) (sym c.session-item.is)
          c.agree_session.ensures.belongs));
    }

-- the moment is that of the book that is lent
pub returns-clause-ok : goal.returns-clause-ok
returns-clause-ok g c =
    let l = c.loop-session in
    let J = g.J.Naming in
    let book = c.args.book.now in
    let tellings = c.args.sessions.now in
    let whole = take_all l.session-index tellings
    (let same = l.auto.sessions in let test = c.loop-session-test.false in
    omega (arith, same, test)) in
    IfOk-weaker c.audit.result _ _
    (λ audit tells. record {
      book = book;
      legal = subst (λ b. IsLegal (layout_of J.ring J.n) (steps_of b.log)) l.invariant.book
          c.log_is_legal.ensures;
      belong = subst (All (SessionBelongsTo book.log J.r)) whole l.invariant.belong;
      tells = subst (λ ss. TellsNow book ss audit) l.invariant.same
          (subst (λ b. TellsNow b l.sessions audit) l.invariant.book tells);
    }) c.audit.ensures.ok
