use Rattle.std.proofs.Common.{not, map, sym, ap, ◌∙◌}
use Rattle.std.specs.List.{filter}
use Rattle.dy_dots.specs.Dots.{same_dot}
use Rattle.dy_dots.specs.declared.dots.Dot.{Dot}
use Rattle.dy_siblings.specs.declared.versions.Version.{Version}
use Rattle.dy_index.proofs.Dotting.{kept_dots}
use Rattle.dy_index.proofs.custodies.Custody.take_out.Goals as goal

-- the dots kept are those of the versions kept
pub invariant_of-self : goal.invariant_of-self
invariant_of-self c =
    c.take_out.ensures
    ∙ (ap (filter (λ (e : Dot). not (same_dot e c.args.dot))) c.self.invariant
    ∙ (kept_dots c.self.inside.row.versions c.args.dot
    ∙ ap (map (λ (v : Version). v.dot)) (sym c.remove.ensures.versions)))
