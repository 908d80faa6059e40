use Rattle.std.proofs.Common.{ap, ◌∙◌, sym}
use Rattle.std.specs.FinSet as set
use Rattle.dy_dots.proofs.Sets.{insert_is, insert_of_part}
use Rattle.dy_dots.proofs.contexts.Context.put_in.Goals as goal

pub returns-then-contains-clause-ok : goal.returns-then-contains-clause-ok
returns-then-contains-clause-ok c = insert_of_part c.args.self.now c.args.dot (sym c.contains.ensures ∙ c.if-contains.true)

pub returns-clause-ok : goal.returns-clause-ok
returns-clause-ok c =
    insert_is c.self.inside.runs.items c.add.new.runs.items c.args.dot c.in_ok-add.ensures.ok.1
    ∙ ap (λ s. set.insert s c.args.dot) c.self.view_is
