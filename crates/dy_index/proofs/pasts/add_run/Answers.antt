-- Each turn adds the history of one dot of the run, from the last to the first.
use Rattle.std.proofs.Common.{◌≡◌, ◌+◌, ◌-◌, true, IfSome, sym, ap, subst, arith}
use Rattle.std.specs.Option.{option_copied}
use Rattle.dy_dots.specs.declared.dots.Dot.{Dot}
use Rattle.dy_core.specs.Worlds.{is_issued}
use Rattle.dy_core.specs.Logs.{world_after}
use Rattle.dy_index.specs.inside.Pasts.{HasFrom, IsGathering}
use Rattle.dy_index.proofs.Gathering.{from_goes, in_run_from, run_goes}
use Rattle.dy_index.proofs.pasts.add_run.Goals as goal

pub loop-next-preserved : goal.loop-next-preserved
loop-next-preserved c =
    let r = c.args.run.now in
    let next = c.loop-next.next in
    let d = c.unwrap-dot.result in
    let new = c.add_history.new.past in
    let dot_is : d ≡ record { node = r.node; counter = next - 1 } =
    subst (λ o. IfSome o (λ (e : Dot). e ≡ record { node = r.node; counter = next - 1 }))
    c.unwrap-dot.ensures c.new.ensures.value in
    let node_is = ap (λ (e : Dot). e.node) dot_is in
    let counter_is = ap (λ (e : Dot). e.counter) dot_is in
    let more = c.loop-next-test.true in
    let high = c.loop-next.invariant.high in
    let low = c.in_ok-next.ensures.low in
    record {
      high = omega (arith, low, counter_is, high);
      grows = λ steps key is below.
          let vs = (world_after steps).versions in
          let before = c.loop-next.invariant.grows steps key is below in
          let issued = subst (λ (e : Dot). is_issued vs key e ≡ true) (sym dot_is)
          (below (next - 1) (omega (arith, more)) (omega (arith, more, high))) in
          run_goes vs key r c.args.past.now c.loop-next.past new d before
          (c.in_ok-next.ensures.grows steps key
          (record { known = is.known; closed = before.closed }) issued)
          (in_run_from r d node_is (omega (arith, more, counter_is))
          (omega (arith, more, high, counter_is)));
      inside = λ steps key is below.
          let vs = (world_after steps).versions in
          let before = c.loop-next.invariant.grows steps key is below in
          let gathering : IsGathering steps key (option_copied c.args.part) c.loop-next.past =
          record { known = is.known; closed = before.closed } in
          let issued = subst (λ (e : Dot). is_issued vs key e ≡ true) (sym dot_is)
          (below (next - 1) (omega (arith, more)) (omega (arith, more, high))) in
          let end_is : d.counter + 1 ≡ next = omega (arith, more, counter_is) in
          from_goes c.loop-next.past new r.node c.in_ok-next.next next (r.last + 1)
          (c.in_ok-next.ensures.grows steps key gathering issued).keeps
          (c.loop-next.invariant.inside steps key is below)
          (subst (HasFrom new r.node c.in_ok-next.next) end_is
          (subst (λ n. HasFrom new n c.in_ok-next.next (d.counter + 1)) node_is
          (c.in_ok-next.ensures.inside steps key gathering issued)));
    }

pub returns-clause-inside : goal.returns-clause-inside
returns-clause-inside c = λ steps key is below k from upto.
    c.loop-next.invariant.inside steps key is below k
    (let end = c.loop-next-test.false in omega (arith, end, from)) upto
