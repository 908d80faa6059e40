-- the key of these bytes is judged
use Rattle.std.proofs.Common.{List, ℕ, subst}
use Rattle.dy_commands.specs.Texts.{IsKeyJudged}
use Rattle.dy_commands.proofs.Judging.{key_judged}
use Rattle.dy_commands.proofs.givens.read_key.Goals as goal

pub returns : goal.returns
returns c =
    let judged = c.new.ensures in
    subst (λ (bytes : List ℕ). IsKeyJudged bytes c.new.result) c.as_bytes.ensures.value
    (key_judged _ c.new.result judged.size judged.value judged.errors)
