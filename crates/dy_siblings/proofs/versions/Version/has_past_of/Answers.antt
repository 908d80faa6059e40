-- Two sets are one where they have the same runs.
use Rattle.std.proofs.Common.{◌≡◌, ◌==◌, ◌&&◌, true, refl, ap, ◌∙◌, subst}
use Rattle.std.specs.Bool.{Decides}
use Rattle.std.proofs.lemmas.Bool.{and_from, and_parts}
use Rattle.std.proofs.lemmas.Bool.Decides.{Decides-eqb}
use Rattle.std.proofs.lemmas.Slice.Eq.{slice_eq-Decides}
use Rattle.dy_dots.specs.Runs.{AreRunsOf}
use Rattle.dy_dots.specs.declared.runs.Run.{Run}
use Rattle.dy_siblings.proofs.Agreeing.{one_by_runs}
use Rattle.dy_siblings.proofs.versions.Version.has_past_of.Goals as goal

runs_decide : (x y : Run) →
    Decides ((x.node == y.node) && ((x.first == y.first) && (x.last == y.last))) (x ≡ y)
runs_decide x y = (
  (λ e. let node = and_parts (x.node == y.node) ((x.first == y.first) && (x.last == y.last)) e in
      let counters = and_parts (x.first == y.first) (x.last == y.last) node.1 in
      let n = (Decides-eqb x.node y.node).0 node.0 in
      let f = (Decides-eqb x.first y.first).0 counters.0 in
      let l = (Decides-eqb x.last y.last).0 counters.1 in
      λ i. record { node = n i; first = f i; last = l i }),
  (λ same. subst (λ (z : Run). ((x.node == z.node) && ((x.first == z.first) && (x.last == z.last))) ≡ true) same
      (and_from (x.node == x.node) ((x.first == x.first) && (x.last == x.last)) ((Decides-eqb x.node x.node).1 refl)
      (and_from (x.first == x.first) (x.last == x.last) ((Decides-eqb x.first x.first).1 refl)
      ((Decides-eqb x.last x.last).1 refl)))),
)

pub returns : goal.returns
returns c =
    one_by_runs c.args.self.now.past c.args.other.now.past c.runs.result.now c.runs-2.result.now
    (subst (AreRunsOf c.runs.result.now) (ap (λ p. p.past) c.deref.ensures ∙ ap (λ v. v.past) c.self.view_is)
    c.runs.ensures.runs)
    (subst (AreRunsOf c.runs-2.result.now) (ap (λ p. p.past) c.deref-2.ensures ∙ ap (λ v. v.past) c.other.view_is)
    c.runs-2.ensures.runs)
    c.eq.result
    (slice_eq-Decides runs_decide c.runs.result.now c.runs-2.result.now c.eq.result c.eq.ensures)
