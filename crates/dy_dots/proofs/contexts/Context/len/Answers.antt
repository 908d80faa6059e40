use Rattle.std.proofs.Common.{ap, ◌∙◌, sym}
use Rattle.std.specs.FinSet as set
use Rattle.dy_dots.specs.inside.Kinds.{count_of}
use Rattle.dy_dots.proofs.Sizes.{len_set_of}
use Rattle.dy_dots.proofs.contexts.Context.len.Goals as goal

pub returns : goal.returns
returns c =
    c.count.ensures ∙ ap count_of c.as_slice.ensures
    ∙ sym (len_set_of 0 0 c.self.inside.runs.items c.self.invariant.apart) ∙ ap set.len c.self.view_is
