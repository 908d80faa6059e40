use Rattle.std.proofs.Common.{◌≡◌, ◌++◌, ◌∷◌, [], List, true, false, not, cond, take, filter, rules, sym, ap, ◌∙◌}
use Rattle.std.proofs.lemmas.Bool.{cond-true, cond-false}
use Rattle.std.proofs.lemmas.List.{append-nil}
use Rattle.std.proofs.lemmas.List.Elements.{filter_more}
use Rattle.dy_core.specs.declared.places.Place.{Place}
use Rattle.dy_core.specs.inside.Meanings.{clashes}
use Rattle.dy_core.proofs.allowing.apart_from.Goals as goal
use Rattle.dy_core.proofs.allowing.apart_from.Goals.{then-not-clashes+in_ok-push, else-not-clashes}

-- one place more is kept, where it stands apart
pub loop-other-preserved : goal.loop-other-preserved
loop-other-preserved c =
    let apart = λ (q : Place). not (clashes c.args.place.now q) in
    let places = c.args.places.now in
    let i = c.loop-other.other-index in
    let x = c.other-item.result in
    let before : List Place = filter apart (take i places) in
    let more = ap (λ (y : Place). before ++ cond (apart y) (y ∷ []) []) c.other-item.is ∙ sym (filter_more apart places i x c.loop-other-test.true) in
    elim c.if-not-clashes.branch [
      | then-not-clashes+in_ok-push w ↦
          let stands : not (clashes c.args.place.now x) ≡ true = search rules in
          ap (λ l. l.items) w.apart-is ∙ (w.in_ok-push.ensures.items ∙ (ap (λ l. l ++ x ∷ []) c.loop-other.invariant
          ∙ (ap (λ o. before ++ o) (sym (cond-true (apart x) (x ∷ []) [] stands)) ∙ more)))
      | else-not-clashes w ↦
          let falls : not (clashes c.args.place.now x) ≡ false = search rules in
          ap (λ l. l.items) w.apart-is ∙ (c.loop-other.invariant ∙ (sym (append-nil before)
          ∙ (ap (λ o. before ++ o) (sym (cond-false (apart x) (x ∷ []) [] falls)) ∙ more)))
    ]
