use Rattle.dy_cluster.proofs.Guarantees.{back_to_none, never_back, reads_own, reads_others}
use Rattle.dy_cluster.proofs.Guarantees.{stays_deleted}
use Rattle.dy_cluster.proofs.laws.session_guarantees.Goals as goal

pub returns-clause-own_writes : goal.returns-clause-own_writes
returns-clause-own_writes c = reads_own

pub returns-clause-others_writes : goal.returns-clause-others_writes
returns-clause-others_writes c = reads_others

pub returns-clause-own_reads : goal.returns-clause-own_reads
returns-clause-own_reads c = never_back

pub returns-clause-others_reads : goal.returns-clause-others_reads
returns-clause-others_reads c = back_to_none

pub returns-clause-deleted : goal.returns-clause-deleted
returns-clause-deleted c = stays_deleted
