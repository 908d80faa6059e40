-- Hint after hint is handed over, while there is room.
use Rattle.std.proofs.Common.{List, ℕ, ◌+◌, ◌∷◌, ◌++◌, ◌<◌, ◌≤◌, [], take, arith, sym, ◌∙◌, refl, ap, subst}
use Rattle.std.proofs.lemmas.List.{take_all}
use Rattle.dy_siblings.specs.Siblings.{Siblings}
use Rattle.dy_transport.specs.Told.{Told}
use Rattle.dy_handoff.specs.Passes.{HandsOverInTurn}
use Rattle.dy_handoff.proofs.Settlings.{settles_join, settles_start}
use Rattle.dy_handoff.proofs.Handovers.{took_more, took_same, turn_more}
use Rattle.dy_handoff.proofs.passes.hand_over_all.Goals as goal
use Rattle.dy_handoff.proofs.passes.hand_over_all.Goals.{then-i-room, else-i-room}

pub loop-i-init : goal.loop-i-init
loop-i-init g c =
    let start = g.T.Transport.told c.args.transport.now in
    record {
      way = c.requires.way;
      turns = (let P : List (ℕ × Siblings) → Type 0 = λ hs. HandsOverInTurn c.args.node hs start start in subst P (sym (take_all start.room [] (omega arith))) refl);
      settles = settles_start c.args.node 0 start;
      offers = omega arith;
      room = refl;
      out = c.requires.out;
    }

pub loop-i-preserved : goal.loop-i-preserved
loop-i-preserved g c =
    let told = g.T.Transport.told c.loop-i.transport in
    let start = g.T.Transport.told c.args.transport.now in
    let inv = c.loop-i.invariant in
    let hints = c.args.hints.now in
    let i = c.loop-i.i in
    let P : List (ℕ × Siblings) → Told g.row.J.Denot → Type 0 = λ hs t. HandsOverInTurn c.args.node hs start t in
    elim c.if-i-room.branch [
      | then-i-room w ↦ (
          let new = g.T.Transport.told w.hand_over-done.new.transport in
          let done = w.hand_over-done.ensures in
          let hint = w.index-hints-i.result in
          let less : i < start.room = subst (λ n. i < n) c.room-room.ensures w.if-i-room.true in
          let took = took_more start.room i (i + 1) hints hint refl c.loop-i-test.true less ∙ ap (λ h. take start.room (take i hints) ++ h ∷ []) (sym w.index-hints-i.is) in
          let before = inv.offers in
          let one = done.offers in
          rw (w.transport-is, w.done-is) (record {
            way = done.way;
            turns = subst (λ hs. P hs new) (sym took) (turn_more c.args.node (take start.room (take i hints)) hint start told new inv.turns done.over);
            settles = settles_join c.args.node 0 _ _ start told new inv.settles done.settles;
            offers = omega arith;
            room = done.room ∙ inv.room;
            out = done.over.out;
          }))
      | else-i-room w ↦ (
          let full : start.room ≤ i = subst (λ n. n ≤ i) c.room-room.ensures w.if-i-room.false in
          let before = inv.offers in
          rw (w.transport-is, w.done-is) (record {
            way = inv.way;
            turns = subst (λ hs. P hs told) (sym (took_same start.room i (i + 1) hints full (omega arith))) inv.turns;
            settles = inv.settles;
            offers = omega arith;
            room = inv.room;
            out = inv.out;
          }))
    ]
