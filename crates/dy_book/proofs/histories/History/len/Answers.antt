use Rattle.std.proofs.Common.{◌∙◌}
use Rattle.dy_shares.proofs.Keeping.{kept_many}
use Rattle.dy_book.proofs.histories.History.len.Goals as goal

pub returns : goal.returns
returns c = λ steps is. c.len.ensures ∙ (c.args.self.now.trail.ok.0 ∙ kept_many c.args.self.now.trail.items steps is.kept)
