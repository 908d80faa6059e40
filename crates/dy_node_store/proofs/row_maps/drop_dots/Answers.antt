use Rattle.std.proofs.Common.{sym, ap, ◌∙◌, ◌∷◌, ◌+◌, drop}
use Rattle.std.proofs.lemmas.List.{drop_more, drop_all}
use Rattle.dy_node_store.specs.Rows.{without_dots}
use Rattle.dy_node_store.proofs.DotLemmas.{without_dots_none, without_dots-without}
use Rattle.dy_node_store.proofs.row_maps.drop_dots.Goals as goal

-- this turn's dot is the first of those to come
pub loop-dot-preserved : goal.loop-dot-preserved
loop-dot-preserved c =
    let dots = c.args.dots.now in
    let later = drop (c.loop-dot.dot-index + 1) dots in
    record {
      key = c.remove.ensures.key ∙ c.loop-dot.invariant.key;
      versions = ap (λ vs. without_dots vs later) c.remove.ensures.versions
          ∙ without_dots-without c.loop-dot.row.versions c.dot-item.result later
          ∙ ap (without_dots c.loop-dot.row.versions) (ap (λ d. d ∷ later) c.dot-item.is ∙ sym (drop_more dots _ c.dot-item.result c.loop-dot-test.true))
          ∙ c.loop-dot.invariant.versions;
    }

-- none are to come
pub returns-clause-versions : goal.returns-clause-versions
returns-clause-versions c =
    sym (without_dots_none c.loop-dot.row.versions)
    ∙ ap (without_dots c.loop-dot.row.versions) (sym (drop_all _ c.args.dots.now c.loop-dot-test.false))
    ∙ c.loop-dot.invariant.versions
