use Rattle.std.proofs.Common.{rules, sym, ap, ◌∙◌, not}
use Rattle.std.proofs.lemmas.Fn.{filter_same}
use Rattle.dy_dots.specs.Dots.{same_dot}
use Rattle.dy_siblings.specs.Siblings.{without}
use Rattle.dy_siblings.specs.inside.Lists.{items_of}
use Rattle.dy_siblings.proofs.lists.Versions.remove.Goals as goal

pub returns-in-Many : goal.returns-in-Many
returns-in-Many c =
    filter_same _ (λ v. not (same_dot v.dot c.args.dot)) _ (λ x b f' k. search rules) _ _ c.retain.ensures.filtered
    ∙ ap (λ l. without (items_of l) c.args.dot) (sym c.in-Many.is)
