-- What is added is the history of the dot's version, which is there where the dot was issued.
use Rattle.std.proofs.Common.{◌+◌, sym, ap, ◌∙◌, subst}
use Rattle.std.specs.FinSet as set
use Rattle.std.proofs.lemmas.Bool.{true≢false}
use Rattle.dy_core.specs.Logs.{world_after}
use Rattle.dy_core.proofs.OverLogs.{log_sound}
use Rattle.dy_index.specs.inside.Pasts.{HasFrom}
use Rattle.dy_index.proofs.Gathering.{grows_history, has_own, itself_from}
use Rattle.dy_index.proofs.pasts.add_history.Goals as goal

pub returns-in_default-clause-grows : goal.returns-in_default-clause-grows
returns-in_default-clause-grows c = λ steps key is issued.
    absurd (true≢false (sym issued ∙ c.in_default.ensures steps key is.known))

pub returns-in_default-clause-inside : goal.returns-in_default-clause-inside
returns-in_default-clause-inside c = λ steps key is issued.
    absurd (true≢false (sym issued ∙ c.in_default.ensures steps key is.known))

pub returns-clause-grows : goal.returns-clause-grows
returns-clause-grows c = λ steps key is issued.
    let vs = (world_after steps).versions in
    let found = c.in-Some.ensures steps key is.known in
    let new = c.in_ok-insert.ensures.ok
    ∙ (λ i. set.insert ((c.in_ok-union.ensures.ok
    ∙ ap (set.union c.args.past.now) c.past.ensures.value) i) (sym found.2 i)) in
    grows_history vs (log_sound is.known.layout steps is.known.legal).ordered key c.args.past.now
    is.closed c.in-Some.version.now found.0 found.1 c.args.dot found.2 c.insert.new.self new

pub returns-clause-inside : goal.returns-clause-inside
returns-clause-inside c = λ steps key is issued.
    let vs = (world_after steps).versions in
    let found = c.in-Some.ensures steps key is.known in
    let new = c.in_ok-insert.ensures.ok
    ∙ (λ i. set.insert ((c.in_ok-union.ensures.ok
    ∙ ap (set.union c.args.past.now) c.past.ensures.value) i) (sym found.2 i)) in
    subst (λ n. HasFrom c.insert.new.self c.args.dot.node n (c.args.dot.counter + 1))
    (sym c.counter-2.ensures.value)
    (itself_from c.insert.new.self c.args.dot
    (has_own vs (log_sound is.known.layout steps is.known.legal).ordered key c.args.past.now
    is.closed c.in-Some.version.now found.0 found.1 c.args.dot found.2 c.insert.new.self new))
