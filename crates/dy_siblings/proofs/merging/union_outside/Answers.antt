use Rattle.std.proofs.Common.{◌++◌, ◌∷◌, [], length, length-append, rules, arith, sym, ◌∙◌, inl, inr, ap, refl, subst}
use Rattle.dy_siblings.specs.inside.Merging.{IsUnionOutside}
use Rattle.dy_siblings.proofs.Walking.{next_shorter, walks_first, walks_on, walks_end}
use Rattle.dy_siblings.proofs.merging.union_outside.Goals as goal

pub loop-next-init : goal.loop-next-init
loop-next-init c = (
  walks_first c.args.past.now c.args.a.now c.args.b.now c.in_ok-kept.kept.items c.in_ok-kept.ensures.items c.requires.a_rises c.requires.b_rises,
  omega (arith, ap length c.in_ok-kept.ensures.items, c.in_ok-kept.ensures.capacity, c.in-Some.ensures),
)

-- the next version is kept
pub loop-next-preserved-then-not-contains : goal.loop-next-preserved-then-not-contains
loop-next-preserved-then-not-contains c =
    let i = c.loop-next.invariant in
    let next = c.in-Some-split_next.ensures.some in
    let shorter = next_shorter c.loop-next.left.now c.loop-next.right.now c.in-Some-split_next.left_rest.now c.in-Some-split_next.right_rest.now c.in-Some-split_next.next.now next in
    let items = c.push_reserved.ensures.items in (
      walks_on c.args.past.now c.args.a.now c.args.b.now c.loop-next.kept.items c.loop-next.left.now c.loop-next.right.now c.in-Some-split_next.next.now
          c.push_reserved.new.self.items c.in-Some-split_next.left_rest.now c.in-Some-split_next.right_rest.now c.requires.agree i.0 next
          (inr (search rules, items ∙ ap (λ v. c.loop-next.kept.items ++ v ∷ []) c.in_ok-try_clone.ensures.value)),
      omega (arith, i.1, shorter, ap length items, length-append c.loop-next.kept.items (c.in_ok-try_clone.field-0 ∷ []), c.push_reserved.ensures.capacity),
    )

-- the next version is past
pub loop-next-preserved : goal.loop-next-preserved
loop-next-preserved c =
    let i = c.loop-next.invariant in
    let next = c.in-Some-split_next.ensures.some in
    let shorter = next_shorter c.loop-next.left.now c.loop-next.right.now c.in-Some-split_next.left_rest.now c.in-Some-split_next.right_rest.now c.in-Some-split_next.next.now next in (
      walks_on c.args.past.now c.args.a.now c.args.b.now c.loop-next.kept.items c.loop-next.left.now c.loop-next.right.now c.in-Some-split_next.next.now
          c.loop-next.kept.items c.in-Some-split_next.left_rest.now c.in-Some-split_next.right_rest.now c.requires.agree i.0 next
          (inl (search rules, refl)),
      omega (arith, i.1, shorter),
    )

pub push_reserved-requires : goal.push_reserved-requires
push_reserved-requires c =
    let shorter = next_shorter c.loop-next.left.now c.loop-next.right.now c.in-Some-split_next.left_rest.now c.in-Some-split_next.right_rest.now c.in-Some-split_next.next.now c.in-Some-split_next.ensures.some in
    omega (arith, c.loop-next.invariant.1, shorter)

pub returns-clause-ok : goal.returns-clause-ok
returns-clause-ok c =
    subst (IsUnionOutside c.args.past.now c.args.a.now c.args.b.now) (sym c.of.ensures)
    (walks_end c.args.past.now c.args.a.now c.args.b.now c.loop-next.kept.items c.loop-next.left.now c.loop-next.right.now (search rules) (search rules) c.loop-next.invariant.0)
