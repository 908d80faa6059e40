use Rattle.std.proofs.Common.{◌<◌, arith, rules, sym, ◌∙◌}
use Rattle.dy_dots.specs.declared.nodes.TheConstants.{MAX_NODES}
use Rattle.dy_quorum.proofs.Keeping.{all_seen, has_room, left_in, none_seen, taken_out}
use Rattle.dy_quorum.proofs.tallies.first_of_each.Goals as goal

pub loop-at-init : goal.loop-at-init
loop-at-init g c = none_seen c.args.added.items c.new-homes.result.items c.new-homes.ensures

pub loop-at-preserved-then-contains : goal.loop-at-preserved-then-contains
loop-at-preserved-then-contains g c =
    let tested = rw (c.deref.ensures.0, c.home-home.ensures) at c.contains.ensures.value in
    rw c.remove.ensures.items (taken_out c.args.added.items c.loop-at.added.items c.loop-at.homes.items c.loop-at.at c.index.result.now c.loop-at.invariant (omega arith) (search rules) (omega (arith, c.home-home.ensures, c.number-number.ensures.value, c.number-number.ensures.small)) (sym tested ∙ c.if-contains.true))

pub push-requires : goal.push-requires
push-requires g c =
    let tested = rw (c.deref.ensures.0, c.home-home.ensures) at c.contains.ensures.value in
    let node : c.index.result.now.home < MAX_NODES = omega (arith, c.home-home.ensures, c.number-number.ensures.value, c.number-number.ensures.small) in
    (omega arith, has_room c.args.added.items c.loop-at.added.items c.loop-at.homes.items c.loop-at.at c.index.result.now c.loop-at.invariant node (sym tested ∙ c.if-contains.false))

pub loop-at-preserved : goal.loop-at-preserved
loop-at-preserved g c =
    let tested = rw (c.deref.ensures.0, c.home-home.ensures) at c.contains.ensures.value in
    rw (c.push.ensures.items, c.home-home.ensures) (left_in c.args.added.items c.loop-at.added.items c.loop-at.homes.items c.loop-at.at c.index.result.now c.loop-at.invariant (omega arith) (search rules) (omega (arith, c.home-home.ensures, c.number-number.ensures.value, c.number-number.ensures.small)) (sym tested ∙ c.if-contains.false))

pub returns : goal.returns
returns g c = all_seen c.args.added.items c.loop-at.added.items c.loop-at.homes.items c.loop-at.at c.loop-at.invariant (omega arith)
