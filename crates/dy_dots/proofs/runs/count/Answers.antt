use Rattle.std.proofs.Common.{arith, rules, ◌≡◌, ◌+◌, ◌-◌, ◌≤◌, drop}
use Rattle.dy_dots.specs.inside.Kinds.{count_of}
use Rattle.dy_dots.proofs.Lists.{valid_at}
use Rattle.dy_dots.proofs.Sizes.{count_at, count_small}
use Rattle.dy_dots.proofs.runs.count.Goals as goal

pub overflow_sub-total : goal.overflow_sub-total
overflow_sub-total c = valid_at c.args.runs.now c.loop-run.run-index c.run-item.result c.requires.apart (omega arith) (search rules)

pub overflow_add-total-in-loop-run : goal.overflow_add-total-in-loop-run
overflow_add-total-in-loop-run c =
    let rs = c.args.runs.now in
    let i = c.loop-run.run-index in
    let r = c.run-item.result in
    let valid : r.first ≤ r.last = valid_at rs i r c.requires.apart (omega arith) (search rules) in
    let all : count_of rs ≤ 32000001 = count_small rs c.requires in
    let here : count_of (drop i rs) ≡ (r.last + 1 - r.first) + count_of (drop (i + 1) rs) = count_at rs i r (omega arith) (search rules) in
    let so_far : c.loop-run.total + count_of (drop i rs) ≡ count_of rs = c.loop-run.invariant in
    omega arith

pub loop-run-preserved : goal.loop-run-preserved
loop-run-preserved c =
    let rs = c.args.runs.now in
    let i = c.loop-run.run-index in
    let r = c.run-item.result in
    let valid : r.first ≤ r.last = valid_at rs i r c.requires.apart (omega arith) (search rules) in
    let here : count_of (drop i rs) ≡ (r.last + 1 - r.first) + count_of (drop (i + 1) rs) = count_at rs i r (omega arith) (search rules) in
    let so_far : c.loop-run.total + count_of (drop i rs) ≡ count_of rs = c.loop-run.invariant in
    omega arith
