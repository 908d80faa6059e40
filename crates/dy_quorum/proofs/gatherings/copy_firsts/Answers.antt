-- The next answer is of a home that is there, or it is taken.
use Rattle.std.proofs.Common.{◌≡◌, ◌+◌, ◌++◌, ◌∷◌, [], List, take, sym, ◌∙◌, ap}
use Rattle.std.proofs.lemmas.List.{take_more}
use Rattle.dy_core.specs.Logs.{Answer}
use Rattle.dy_quorum.specs.Gatherings.{answer_homes}
use Rattle.dy_quorum.proofs.Firsts.{home_in, taken_same, taken_more}
use Rattle.dy_quorum.proofs.Homes.{at_answers}
use Rattle.dy_quorum.proofs.gatherings.copy_firsts.Goals as goal
use Rattle.dy_quorum.proofs.gatherings.copy_firsts.Goals.{then-not-has_answer+in_ok-try_clone+in_ok-push, else-not-has_answer}

pub loop-seen-preserved : goal.loop-seen-preserved
loop-seen-preserved g c =
    let inv = c.loop-seen.invariant in
    let i = c.loop-seen.seen-index in
    let ss : List Answer = take i c.args.seens.now in
    let s : Answer = c.seen-item.result in
    let tested : c.has_answer.result ≡ home_in (answer_homes c.loop-seen.chosen.items) s.home =
    c.has_answer.ensures ∙ rw (c.deref.ensures.value, c.home.ensures)
    (at_answers c.loop-seen.chosen.items s.home) in
    let more : take (i + 1) c.args.seens.now ≡ ss ++ s ∷ [] =
    take_more c.args.seens.now i s c.loop-seen-test.true
    ∙ ap (λ (x : Answer). ss ++ x ∷ []) (sym c.seen-item.is) in
    rw more (elim c.if-not-has_answer.branch [
      | then-not-has_answer+in_ok-try_clone+in_ok-push w ↦ rw w.chosen-is
          (let lacks = sym tested ∙ w.if-not-has_answer.true in record {
            chosen = rw (w.in_ok-push.ensures.items, w.in_ok-try_clone.ensures.value)
                (taken_more (λ (a : Answer). a.home) ss _ s _ (ap answer_homes inv.chosen)
                inv.chosen lacks);
          })
      | else-not-has_answer w ↦ rw w.chosen-is
          (let has = sym tested ∙ w.if-not-has_answer.false in record {
            chosen = taken_same (λ (a : Answer). a.home) ss _ s _ (ap answer_homes inv.chosen)
                inv.chosen has;
          })
    ])
