use Rattle.std.proofs.Common.{◌∙◌, ap, subst, map}
use Rattle.dy_ring.specs.Lists.{RefusesClash, TellsClash, MakesUnlessMemory}
use Rattle.dy_ring.proofs.rings.Ring.derived.Goals as goal

-- the lists that were made are the derived ones
pub returns-clause-clash : goal.returns-clause-clash
returns-clause-clash c =
    let same = ap (map (λ list. list.items)) c.as_slice.ensures.value ∙ c.in_ok-lists.ensures.ok in
    subst (λ given. RefusesClash given c.from_tokens.result) same c.from_tokens.ensures.clash

pub returns-clause-told : goal.returns-clause-told
returns-clause-told c =
    let same = ap (map (λ list. list.items)) c.as_slice.ensures.value ∙ c.in_ok-lists.ensures.ok in
    subst (λ given. TellsClash given c.from_tokens.result) same c.from_tokens.ensures.told

pub returns-clause-memory : goal.returns-clause-memory
returns-clause-memory c =
    let same = ap (map (λ list. list.items)) c.as_slice.ensures.value ∙ c.in_ok-lists.ensures.ok in
    subst (λ given. MakesUnlessMemory given c.from_tokens.result) same c.from_tokens.ensures.memory
