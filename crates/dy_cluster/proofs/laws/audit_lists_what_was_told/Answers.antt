use Rattle.dy_cluster.proofs.laws.audit_lists_what_was_told.Goals as goal

pub returns : goal.returns
returns c = λ ring n r tellings closed ends x. ends.1.audit.acked_told x
