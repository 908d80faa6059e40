-- There is a place for each first answer, so as many places as answers say that all are first ones.
use Rattle.std.proofs.Common.{◌≡◌, ◌↔◌, IsTrue, List, length, rules, sym, ◌∙◌, ap, subst}
use Rattle.std.proofs.Math.Dec.{eqb}
use Rattle.std.proofs.lemmas.Bool.{eqb-true, eq-eqb}
use Rattle.std.proofs.lemmas.List.{length-map}
use Rattle.dy_core.specs.Logs.{Answer}
use Rattle.dy_quorum.specs.Gatherings.{answer_place, first_answers}
use Rattle.dy_quorum.proofs.Firsts.{all_taken}
use Rattle.dy_quorum.proofs.gatherings.Gathering.has_firsts_alone.Goals as goal

pub returns : goal.returns
returns g c =
    let ss : List Answer = c.self.inside.seens.items in
    let places : c.len.result ≡ length (first_answers ss) = c.len.ensures.value
    ∙ (ap length c.self.invariant.0 ∙ length-map (first_answers ss) answer_place) in
    let count : c.len-2.result ≡ length ss = search rules in
    let P : List Answer → Type 0 =
    λ xs. IsTrue (eqb c.len.result c.len-2.result) ↔ (first_answers xs ≡ xs) in
    subst P (ap (λ v. v.seens) c.self.view_is) (
      (λ same. all_taken (λ (a : Answer). a.home) ss
          (sym places ∙ (eqb-true c.len.result c.len-2.result same ∙ count))),
      (λ all. eq-eqb c.len.result c.len-2.result
          (places ∙ (ap length all ∙ sym count))),
    )
