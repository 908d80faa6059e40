-- The place of the new dot is found once, and its facts serve all seven returns.
use Rattle.std.proofs.Common.{ℕ, List, sym, ap, ◌∙◌, ◌≡◌, ◌<◌, ◌≤◌, ◌+◌, arith, refl, inl, inr, subst, get_or, length, slice_set}
use Rattle.std.proofs.lemmas.List.{get_or_read}
use Rattle.std.proofs.lemmas.List.{length-set}
use Rattle.std.specs.List.{refill}
use Rattle.smallvec.specs.SmallVec.{SmallVec, small_vec_len}
use Rattle.smallvec.proofs.SmallVecLemmas.{items-with_items}
use Rattle.dy_dots.specs.Runs.{single}
use Rattle.dy_dots.specs.inside.Kinds.{AreBelow, IsPlace, IsReached, IsBelow, Added}
use Rattle.dy_dots.specs.declared.dots.Dot.{Dot}
use Rattle.dy_dots.specs.declared.runs.Run.{Run}
use Rattle.dy_dots.proofs.Lists.{add_alone, add_last, add_before, add_present, add_after, add_closing}
use Rattle.dy_dots.proofs.runs.add.Goals as goal

-- what is known of the place of a run of one dot
record IsPlaced (rs : List Run) (i : ℕ) (s : Run) : Type 0 where
  one : s.last ≡ s.first
  below : (k : ℕ) → k < i → IsBelow (get_or rs k s) s
  within : i ≤ length rs
  reached : i < length rs → IsReached (get_or rs i s) s

placed : (rs slice : List Run) (i : ℕ) (s : Run) (d : Dot) → slice ≡ rs → s ≡ single d → AreBelow slice i s → i ≤ length slice → IsPlace slice i s → IsPlaced rs i s
placed rs slice i s d same is below within reached = record {
  one = ap (λ z. z.last) is ∙ sym (ap (λ z. z.first) is);
  below = subst (λ l. AreBelow l i s) same below;
  within = subst (λ l. i ≤ length l) same within;
  reached = subst (λ l. IsPlace l i s) same reached;
}

-- what is read through the slice is read of the list
read_in : (rs slice : List Run) (i : ℕ) (run : Run) → slice ≡ rs → run ≡ get_or slice i run → run ≡ get_or rs i run
read_in rs slice i run same is = subst (λ l. run ≡ get_or l i run) same is

-- what is written through the slice is written into the list
set_in : (runs : SmallVec Run) (slice : List Run) (i : ℕ) (run : Run) → slice ≡ runs.items → refill (small_vec_len runs) runs.items (slice_set slice i run) ≡ slice_set runs.items i run
set_in runs slice i run same = items-with_items runs (slice_set slice i run) (length-set slice i run ∙ ap length same) ∙ ap (λ l. slice_set l i run) same

pub returns-then-place-len-clause-ok : goal.returns-then-place-len-clause-ok
returns-then-place-len-clause-ok c =
    let rs = c.args.runs.now.items in
    let i = c.place_of-place.result in
    let s = c.of-alone.result in
    let is = c.of-alone.ensures.value in
    let p = placed rs c.as_slice.result.now i s c.args.dot.now c.as_slice.ensures is c.place_of-place.ensures.below c.place_of-place.ensures.within c.place_of-place.ensures.reached in
    let count : small_vec_len c.args.runs.now ≡ length rs = refl in
    subst (λ z. Added rs z c.push.new.self.items) is
    (subst (Added rs s) (sym c.in_ok-push.ensures.ok) (add_last rs i s p.one c.requires p.below (omega arith)))

pub returns-then-is_below-clause-ok : goal.returns-then-is_below-clause-ok
returns-then-is_below-clause-ok c =
    let rs = c.args.runs.now.items in
    let i = c.place_of-place.result in
    let s = c.of-alone.result in
    let is = c.of-alone.ensures.value in
    let p = placed rs c.as_slice.result.now i s c.args.dot.now c.as_slice.ensures is c.place_of-place.ensures.below c.place_of-place.ensures.within c.place_of-place.ensures.reached in
    let count : small_vec_len c.args.runs.now ≡ length rs = refl in
    let within = p.within in
    let lt : i < length rs = omega arith in
    let ahead = subst (λ z. IsBelow s z) (get_or_read rs i c.index-deref-place.result lt (read_in rs c.deref.result.now i c.index-deref-place.result c.deref.ensures c.index-deref-place.is) s) (c.is_below.ensures.yes c.if-is_below.true) in
    subst (λ z. Added rs z c.insert.new.self.items) is
    (subst (Added rs s) (sym c.in_ok-insert.ensures.ok) (add_alone rs i s p.one c.requires p.below within (inr (lt, ahead))))

pub returns-then-alone-run-clause-ok : goal.returns-then-alone-run-clause-ok
returns-then-alone-run-clause-ok c =
    let rs = c.args.runs.now.items in
    let i = c.place_of-place.result in
    let s = c.of-alone.result in
    let is = c.of-alone.ensures.value in
    let p = placed rs c.as_slice.result.now i s c.args.dot.now c.as_slice.ensures is c.place_of-place.ensures.below c.place_of-place.ensures.within c.place_of-place.ensures.reached in
    let count : small_vec_len c.args.runs.now ≡ length rs = refl in
    let within = p.within in
    let lt : i < length rs = omega arith in
    let from = c.is_below.ensures.no c.if-is_below.false in
    subst (Added rs (single c.args.dot.now)) (sym (set_in c.args.runs.now c.deref_mut.result.now i c.joined.result c.deref_mut.ensures.value)) (
    subst (λ z. Added rs z (slice_set rs i c.joined.result)) is
    (subst (λ j. Added rs s (slice_set rs i j)) (sym c.joined.ensures)
    (add_before rs i s c.index-deref-place.result p.one c.requires p.below lt (read_in rs c.deref.result.now i c.index-deref-place.result c.deref.ensures c.index-deref-place.is) (p.reached lt) from (omega (arith, ap (λ z. z.first) is)))))

pub returns-then-alone-run-2-clause-ok : goal.returns-then-alone-run-2-clause-ok
returns-then-alone-run-2-clause-ok c =
    let rs = c.args.runs.now.items in
    let i = c.place_of-place.result in
    let s = c.of-alone.result in
    let is = c.of-alone.ensures.value in
    let p = placed rs c.as_slice.result.now i s c.args.dot.now c.as_slice.ensures is c.place_of-place.ensures.below c.place_of-place.ensures.within c.place_of-place.ensures.reached in
    let count : small_vec_len c.args.runs.now ≡ length rs = refl in
    let within = p.within in
    let lt : i < length rs = omega arith in
    let from = c.is_below.ensures.no c.if-is_below.false in
    subst (λ z. Added rs z rs) is
    (add_present rs i s c.index-deref-place.result p.one c.requires lt (read_in rs c.deref.result.now i c.index-deref-place.result c.deref.ensures c.index-deref-place.is) (p.reached lt) from (omega (arith, ap (λ z. z.first) is)) (omega (arith, ap (λ z. z.first) is)))

pub returns-then-next-len-clause-ok : goal.returns-then-next-len-clause-ok
returns-then-next-len-clause-ok c =
    let rs = c.args.runs.now.items in
    let i = c.place_of-place.result in
    let s = c.of-alone.result in
    let is = c.of-alone.ensures.value in
    let p = placed rs c.as_slice.result.now i s c.args.dot.now c.as_slice.ensures is c.place_of-place.ensures.below c.place_of-place.ensures.within c.place_of-place.ensures.reached in
    let one = p.one in
    let count : small_vec_len c.args.runs.now ≡ length rs = refl in
    let within = p.within in
    let lt : i < length rs = omega arith in
    let from = c.is_below.ensures.no c.if-is_below.false in
    let higher : c.index-deref-place.result.last < s.first = omega (arith, ap (λ z. z.first) is) in
    subst (Added rs (single c.args.dot.now)) (sym (set_in c.args.runs.now c.deref_mut-then-next-len.result.now i c.joined-longer.result c.deref_mut-then-next-len.ensures.value)) (
    subst (λ z. Added rs z (slice_set rs i c.joined-longer.result)) is
    (add_after rs i (i + 1) s c.index-deref-place.result c.joined-longer.result p.one c.requires lt (read_in rs c.deref.result.now i c.index-deref-place.result c.deref.ensures c.index-deref-place.is) (p.reached lt) from higher c.joined-longer.ensures refl (inl (omega arith))))

pub returns-then-is_below-2-clause-ok : goal.returns-then-is_below-2-clause-ok
returns-then-is_below-2-clause-ok c =
    let rs = c.args.runs.now.items in
    let i = c.place_of-place.result in
    let s = c.of-alone.result in
    let is = c.of-alone.ensures.value in
    let p = placed rs c.as_slice.result.now i s c.args.dot.now c.as_slice.ensures is c.place_of-place.ensures.below c.place_of-place.ensures.within c.place_of-place.ensures.reached in
    let one = p.one in
    let count : small_vec_len c.args.runs.now ≡ length rs = refl in
    let within = p.within in
    let lt : i < length rs = omega arith in
    let from = c.is_below.ensures.no c.if-is_below.false in
    let higher : c.index-deref-place.result.last < s.first = omega (arith, ap (λ z. z.first) is) in
    let next : i + 1 < length rs = omega arith in
    let ahead = subst (λ z. IsBelow c.joined-longer.result z) (get_or_read rs (i + 1) c.index-deref-next.result next (read_in rs c.deref-2.result.now (i + 1) c.index-deref-next.result c.deref-2.ensures c.index-deref-next.is) s) (c.is_below-2.ensures.yes c.if-is_below-2.true) in
    subst (Added rs (single c.args.dot.now)) (sym (set_in c.args.runs.now c.deref_mut-then-is_below-2.result.now i c.joined-longer.result c.deref_mut-then-is_below-2.ensures.value)) (
    subst (λ z. Added rs z (slice_set rs i c.joined-longer.result)) is
    (add_after rs i (i + 1) s c.index-deref-place.result c.joined-longer.result p.one c.requires lt (read_in rs c.deref.result.now i c.index-deref-place.result c.deref.ensures c.index-deref-place.is) (p.reached lt) from higher c.joined-longer.ensures refl (inr (next, ahead))))

pub returns-clause-ok : goal.returns-clause-ok
returns-clause-ok c =
    let rs = c.args.runs.now.items in
    let i = c.place_of-place.result in
    let s = c.of-alone.result in
    let is = c.of-alone.ensures.value in
    let p = placed rs c.as_slice.result.now i s c.args.dot.now c.as_slice.ensures is c.place_of-place.ensures.below c.place_of-place.ensures.within c.place_of-place.ensures.reached in
    let one = p.one in
    let count : small_vec_len c.args.runs.now ≡ length rs = refl in
    let within = p.within in
    let lt : i < length rs = omega arith in
    let from = c.is_below.ensures.no c.if-is_below.false in
    let higher : c.index-deref-place.result.last < s.first = omega (arith, ap (λ z. z.first) is) in
    let next : i + 1 < length rs = omega arith in
    subst (Added rs (single c.args.dot.now)) (sym (set_in c.remove.new.self c.deref_mut-2.result.now i c.joined-2.result c.deref_mut-2.ensures.value)) (
    subst (λ z. Added rs z (slice_set c.remove.new.self.items i c.joined-2.result)) is
    (subst (λ l. Added rs s (slice_set l i c.joined-2.result)) (sym c.remove.ensures.items)
    (add_closing rs i (i + 1) s c.index-deref-place.result c.index-deref-next.result c.joined-longer.result c.joined-2.result p.one c.requires refl next (read_in rs c.deref.result.now i c.index-deref-place.result c.deref.ensures c.index-deref-place.is) (read_in rs c.deref-2.result.now (i + 1) c.index-deref-next.result c.deref-2.ensures c.index-deref-next.is) (p.reached lt) from higher c.joined-longer.ensures (c.is_below-2.ensures.no c.if-is_below-2.false) c.joined-2.ensures)))
