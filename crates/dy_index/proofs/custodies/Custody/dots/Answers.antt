use Rattle.std.proofs.Common.{sym, ◌∙◌, subst}
use Rattle.dy_index.specs.Readings.{DotsRise}
use Rattle.dy_index.proofs.Dotting.{rise_dots}
use Rattle.dy_index.proofs.custodies.Custody.dots.Goals as goal

pub returns-clause-rise : goal.returns-clause-rise
returns-clause-rise c =
    subst DotsRise (sym (c.as_slice.ensures ∙ c.self.invariant))
    (rise_dots c.self.inside.row.versions c.versions-versions.ensures.valid.rise)
