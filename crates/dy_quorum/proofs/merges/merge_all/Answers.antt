use Rattle.std.proofs.Common.{◌≡◌, List, take, subst}
use Rattle.std.proofs.lemmas.List.{take_all}
use Rattle.dy_siblings.specs.Siblings.{IsSameRow, newest}
use Rattle.dy_core.specs.Logs.{Answer, rows_of}
use Rattle.dy_quorum.proofs.merges.merge_all.Goals as goal

-- at the end those before are all
pub returns-clause-merged : goal.returns-clause-merged
returns-clause-merged g c =
    let ss : List Answer = c.args.seens.now in
    let P : List Answer → Type 0 =
    λ answers. IsSameRow c.into_row.result.versions (newest (rows_of answers)) in
    let all : take c.loop-i.i ss ≡ ss = take_all c.loop-i.i ss c.loop-i-test.false in
    subst P all (c.into_row.ensures.merged (take c.loop-i.i ss) c.loop-i.invariant.merged)
