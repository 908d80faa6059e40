use Rattle.dy_coord.proofs.Stored.{listed, refused, taken}
use Rattle.dy_coord.proofs.laws.puts_fail_only_for_want_of_homes.Goals as goal

pub returns-clause-enough : goal.returns-clause-enough
returns-clause-enough g c = λ list w key context value before after told result coordinator begun put.
    taken list begun.row begun.dot coordinator told put.added put.answers put.spreads key w put.begins told.tries before after result put.ends

pub returns-clause-not_enough : goal.returns-clause-not_enough
returns-clause-not_enough g c = λ list w key context value before after told result coordinator begun put.
    refused list begun.row begun.dot coordinator told put.added put.answers put.spreads key w put.begins told.tries before after result put.ends

pub returns-clause-listed : goal.returns-clause-listed
returns-clause-listed g c = λ list w key context value before after told result coordinator begun put.
    listed list begun.row begun.dot coordinator told put.added put.answers put.spreads key w put.begins told.tries before after result put.ends
