use Rattle.std.proofs.Common.{ℕ, ◌≡◌, ◌≤◌, ◌<◌, ◌+◌, ◌-◌, max, length, List, sym, ap, ◌∙◌, arith, refl, inl, inr, subst, get_or, slice_set}
use Rattle.std.proofs.lemmas.Bool.{eqb-true}
use Rattle.std.proofs.lemmas.List.{length-set}
use Rattle.std.specs.List.{refill}
use Rattle.smallvec.specs.SmallVec.{SmallVec, small_vec_len}
use Rattle.smallvec.proofs.SmallVecLemmas.{items-with_items}
use Rattle.dy_dots.specs.Runs.{AreApart, single}
use Rattle.dy_dots.specs.inside.Kinds.{Added, IsReached}
use Rattle.dy_dots.specs.declared.dots.Dot.{Dot}
use Rattle.dy_dots.specs.declared.runs.Run.{Run}
use Rattle.dy_dots.proofs.Lists.{add_after, reached_at, valid_at}
use Rattle.dy_dots.proofs.runs.go_on.Goals as goal

-- the last run, which ends right before the dot, with the dot at its end
longer_adds : (rs : List Run) (i : ℕ) (r : Run) (d : Dot) → AreApart rs → i + 1 ≡ length rs → r ≡ get_or rs i r → r.node ≡ d.node → r.last + 1 ≡ d.counter → Added rs (single d) (slice_set rs i (record { node = r.node; first = r.first; last = d.counter }))
longer_adds rs i r d apart last read node next =
    let lt : i < length rs = omega arith in
    let valid : r.first ≤ r.last = valid_at rs i r apart lt read in
    let to : IsReached r (single d) = inr (sym node, omega arith) in
    let from : IsReached (single d) r = inr (node, omega arith) in
    let top : d.counter ≡ max r.last d.counter = omega arith in
    add_after rs i (i + 1) (single d) r (record { node = r.node; first = r.first; last = d.counter }) refl apart lt read
    (reached_at rs i (single d) r lt read to) from (omega arith)
    (ap (λ l. record { node = r.node; first = r.first; last = l }) top) refl (inl last)

-- what is written through the slice is written into the list
written : (runs : SmallVec Run) (slice : List Run) (i : ℕ) (run : Run) → slice ≡ runs.items → refill (small_vec_len runs) runs.items (slice_set slice i run) ≡ slice_set runs.items i run
written runs slice i run same = items-with_items runs (slice_set slice i run) (length-set slice i run ∙ ap length same) ∙ ap (λ l. slice_set l i run) same

pub returns-in-Some-clause-yes : goal.returns-in-Some-clause-yes
returns-in-Some-clause-yes c =
    let rs = c.args.runs.now.items in
    let slice = c.as_mut_slice.result.now in
    let same : slice ≡ rs = c.as_mut_slice.ensures.value in
    let i = length slice - 1 in
    let r = c.in-Some.run'.now in
    let d = c.args.dot.now in
    let count : length slice ≡ length rs = ap length same in
    let some : 0 < length slice = c.in-Some.ensures.item.3.0 in
    let read : r ≡ get_or rs i r = c.in-Some.ensures.item.1 ∙ ap (λ l. get_or l i r) same in
    let node : r.node ≡ d.node = eqb-true _ _ (sym c.eq.ensures ∙ c.if-eq.true) ∙ c.node.ensures in
    λ _. subst (Added rs (single d)) (sym (written c.args.runs.now slice i _ same)) (
    subst (λ n. Added rs (single d) (slice_set rs i (record { node = r.node; first = r.first; last = n }))) (sym c.counter-counter.ensures.value)
    (longer_adds rs i r d c.requires (omega arith) read node (omega arith)))
