use Rattle.std.proofs.Common.{◌∙◌, ◌||◌, is_none, get_or, map, None, sym, ap, arith}
use Rattle.dy_script.specs.inside.Fields.{name_at}
use Rattle.dy_script.proofs.FieldsRead.{HasKnown-more, HasKnown-stop}
use Rattle.dy_script.proofs.KnownKeys.{one_of_names}
use Rattle.dy_script.proofs.fields.Fields.has_only.Goals as goal

pub loop-place-preserved : goal.loop-place-preserved
loop-place-preserved c =
    let fs = c.args.self.now.places in
    let names = c.args.names.now in
    let i = c.loop-place.place in
    HasKnown-more (map (λ name. name.now) names) fs i (omega (arith, c.loop-place-test.true)) c.args.self.now.sized c.loop-place.invariant
    (ap (λ b. is_none (get_or fs i None) || b) (sym (one_of_names names (name_at i))) ∙ (sym c.allows.ensures ∙ c.if-not-allows.false))

pub returns-then-not-allows : goal.returns-then-not-allows
returns-then-not-allows c =
    let fs = c.args.self.now.places in
    let names = c.args.names.now in
    let i = c.loop-place.place in
    sym (HasKnown-stop (map (λ name. name.now) names) fs i (omega (arith, c.loop-place-test.true)) c.args.self.now.sized c.loop-place.invariant
    (ap (λ b. is_none (get_or fs i None) || b) (sym (one_of_names names (name_at i))) ∙ (sym c.allows.ensures ∙ c.if-not-allows.true)))
