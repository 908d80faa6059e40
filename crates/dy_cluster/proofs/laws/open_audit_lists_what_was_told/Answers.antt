-- The session belongs to the log, whose acks the audit lists.
use Rattle.std.proofs.lemmas.List.Elements.{All-contains}
use Rattle.dy_shares.specs.Shares.{SessionBelongsTo}
use Rattle.dy_cluster.proofs.laws.open_audit_lists_what_was_told.Goals as goal

pub returns : goal.returns
returns c = λ ring n r tellings audit lent x told.
    let log = lent.book.log in
    let belongs = All-contains (SessionBelongsTo log r) tellings told.0 lent.belong told.1 in
    (lent.tells.acked.acks.same x).1
    (c.told_acks_are_logged.ensures log r told.0 belongs told.2.0 told.2.1 x told.2.2)
