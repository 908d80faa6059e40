use Rattle.std.proofs.Common.{sym, subst, ◌∙◌}
use Rattle.std.proofs.KnownBytes.{Appends-trans}
use Rattle.std.specs.Io.KnownBytes.{Appends}
use Rattle.dy_plans.proofs.RingLines.{key_lines-next, key_line-is}
use Rattle.dy_plans.proofs.rings.write_keys.Goals as goal

-- this turn writes the next key's line
pub loop-key-preserved : goal.loop-key-preserved
loop-key-preserved g c =
    let ring = c.args.ring.now in
    let key = c.key-item.result in
    let order = c.nodes-in-loop-key.ensures.value ∙ c.preference-list.ensures.nodes in
    let told = key_line-is ring key _ _ c.position.ensures.value order in
    let next = key_lines-next ring c.args.keys.now _ key c.loop-key-test.true c.key-item.is in
    subst (Appends _ _) (sym next)
    (Appends-trans _ _ _ _ _ c.loop-key.invariant
    (subst (Appends _ _) told c.in_ok-writeln.ensures.bytes))
