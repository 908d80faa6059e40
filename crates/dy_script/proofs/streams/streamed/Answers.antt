use Rattle.std.proofs.Common.{◌≡◌, ℕ, List, Ok, IfOk, subst}
use Rattle.dy_script.specs.Reading.{script_parts, script_of_text}
use Rattle.dy_script.proofs.streams.streamed.Goals as goal

pub returns-clause-ok : goal.returns-clause-ok
returns-clause-ok c =
    subst (λ (text : List ℕ). IfOk c.script_in.result (λ script. script_of_text text ≡ Ok (script_parts script))) c.in-Ok.ensures.cases.0 c.script_in.ensures
