-- where nothing was read, each log begins with it
use Rattle.std.proofs.Common.{◌≡◌, ◌∙◌, ◌++◌, [], ap, sym}
use Rattle.dy_cluster.specs.Marks.{log_of}
use Rattle.dy_cluster.proofs.marks.Mark.learn.Goals as goal

pub returns-in-None-clause-begins : goal.returns-in-None-clause-begins
returns-in-None-clause-begins g c =
    let none : c.args.self.now ≡ [] = sym c.self.view_is ∙ ap log_of c.in-None.is in
    (c.args.book.now.log, ap (λ l. l ++ c.args.book.now.log) none)
