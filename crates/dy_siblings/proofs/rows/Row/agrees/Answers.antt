use Rattle.std.proofs.Common.{◌≡◌, ap, sym, subst, ◌∙◌}
use Rattle.std.specs.Cmp.Lexicographic.{bytes_decides}
use Rattle.std.proofs.lemmas.Bool.{not-true, not_from_false}
use Rattle.dy_siblings.specs.inside.Lists.{items_of}
use Rattle.dy_siblings.specs.inside.Merging.{do_lists_conflict}
use Rattle.dy_siblings.specs.Siblings.{Rise}
use Rattle.dy_siblings.proofs.Agreeing.{agree_from, agree_then}
use Rattle.dy_siblings.proofs.rows.Row.agrees.Goals as goal

-- of one key, the rows agree where no versions conflict
pub returns-then-eq : goal.returns-then-eq
returns-then-eq c = (
  (λ yes. (key, agree_from c.args.self.now.versions c.args.other.now.versions mine theirs (sym conflict_is ∙ not-true c.lists_conflict.result yes))),
  (λ p. not_from_false c.lists_conflict.result (conflict_is ∙ agree_then c.args.self.now.versions c.args.other.now.versions p.1)),
)
  where
    inside_key : c.self.inside.key ≡ c.other.inside.key
    inside_key = (bytes_decides c.self.inside.key c.other.inside.key).0 (sym c.eq.ensures ∙ c.if-eq.true)

    key : c.args.self.now.key ≡ c.args.other.now.key
    key = sym (ap (λ s. s.key) c.self.view_is) ∙ inside_key ∙ ap (λ s. s.key) c.other.view_is

    mine : Rise c.args.self.now.versions
    mine = subst (λ s. Rise s.versions) c.self.view_is c.self.invariant.siblings.rise

    theirs : Rise c.args.other.now.versions
    theirs = subst (λ s. Rise s.versions) c.other.view_is c.other.invariant.siblings.rise

    conflict_is : c.lists_conflict.result ≡ do_lists_conflict c.args.self.now.versions c.args.other.now.versions
    conflict_is =
        c.lists_conflict.ensures
        ∙ ap (λ l. do_lists_conflict l c.as_slice-then-eq.result.now) c.as_slice.ensures
        ∙ ap (do_lists_conflict (items_of c.self.inside.versions)) c.as_slice-then-eq.ensures
        ∙ ap (λ s. do_lists_conflict s.versions (items_of c.other.inside.versions)) c.self.view_is
        ∙ ap (λ s. do_lists_conflict c.args.self.now.versions s.versions) c.other.view_is
