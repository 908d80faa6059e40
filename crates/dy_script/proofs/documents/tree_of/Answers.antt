use Rattle.std.proofs.Common.{Err, sym, ap, ◌∙◌}
use Rattle.dy_script.proofs.TextsRead.{tree_short}
use Rattle.dy_script.proofs.documents.tree_of.Goals as goal

-- memory is short only where an array or an object opens
pub returns-in-Err-clause-memory : goal.returns-in-Err-clause-memory
returns-in-Err-clause-memory c full =
    tree_short c.args.text.now c.in-Err.error (λ m. rw c.in-Ok.ensures.ok at (c.in-Err.ensures.memory (ap Err m))) (sym c.fault_of.ensures ∙ full)
