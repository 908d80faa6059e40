use Rattle.std.proofs.Common.{bytes_eq, rules, tests}
use Rattle.std.proofs.lemmas.Iterator.{YieldsList-from_slice}
use Rattle.std.proofs.lemmas.Iterator.Search.{any_from_yields_List}
use Rattle.dy_script.proofs.members.is_one_of.Goals as goal

-- the closure compares each name
pub returns : goal.returns
returns c =
    any_from_yields_List (λ name. bytes_eq name.now c.args.key.now) _ _ _ c.any.ensures.ran
    (YieldsList-from_slice c.args.names.now cc) (λ x b q k. search (rules, tests))
