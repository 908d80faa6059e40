use Rattle.std.proofs.Common.{◌≡◌, ◌+◌, ◌++◌, ◌∷◌, [], rules, sym, subst}
use Rattle.dy_script.specs.Reading.{key_at}
use Rattle.dy_script.proofs.ListsRead.{HasRead, HasRead-more}
use Rattle.dy_script.proofs.reading.keys_in.Goals as goal

-- one more key is read
pub loop-value-preserved : goal.loop-value-preserved
loop-value-preserved c =
    let more : c.push.new.self.items ≡ c.loop-value.found.items ++ c.in_ok-key.key ∷ [] = search rules in
    subst (HasRead key_at c.args.list.now (c.loop-value.value-index + 1)) (sym more)
    (HasRead-more key_at c.args.list.now c.loop-value.value-index c.loop-value.found.items c.value-item.result c.in_ok-key.key
    (search rules) c.loop-value.invariant (search rules))
