use Rattle.std.proofs.Common.{rules, tests}
use Rattle.std.proofs.lemmas.Iterator.{YieldsList-from_slice}
use Rattle.std.proofs.lemmas.Iterator.Search.{all_from_yields_List}
use Rattle.dy_script.specs.inside.Keys.{is_one_of}
use Rattle.dy_script.proofs.members.has_only.Goals as goal

-- the closure tests each member's name
pub returns : goal.returns
returns c =
    all_from_yields_List (λ m. is_one_of c.args.names.now m.0.now) _ _ _ c.all.ensures.ran
    (YieldsList-from_slice c.args.members.now cc) (λ x b q k. search (rules, tests))
