use Rattle.std.proofs.Common.{rules, ◌≡◌, not, sym, ap, ◌∙◌}
use Rattle.std.specs.List.{filter}
use Rattle.std.proofs.lemmas.Fn.{filter_same}
use Rattle.dy_dots.specs.Dots.{same_dot}
use Rattle.dy_dots.specs.declared.dots.Dot.{Dot}
use Rattle.dy_index.specs.inside.Held.{dots_in}
use Rattle.dy_index.proofs.dots.Dots.take_out.Goals as goal

-- where none stands alone, the list has all of them
pub returns-in-None : goal.returns-in-None
returns-in-None c =
    let kept : c.retain.new.self.items ≡ filter
    (λ e. not (same_dot e c.args.dot)) c.self.inside.more.items =
    filter_same _ _ _ (λ x b f' k. search rules) _ _ c.retain.ensures.filtered in
    ap (λ o. dots_in o c.retain.new.self.items) c.in-None.is
    ∙ (kept
    ∙ ap (filter (λ (e : Dot). not (same_dot e c.args.dot)))
    (sym (ap (λ o. dots_in o c.self.inside.more.items) c.in-None.is) ∙ c.self.view_is))
