-- By whether the node made a version of the dot.
use Rattle.std.proofs.Common.{◌-◌, slice_get, None, Some, sym, ap, ◌∙◌}
use Rattle.std.specs.Option.{option_copied}
use Rattle.dy_core.specs.Worlds.{is_issued}
use Rattle.dy_core.specs.Logs.{world_after}
use Rattle.dy_core.proofs.OverLogs.{log_sound}
use Rattle.dy_index.specs.Indexes.{made_in}
use Rattle.dy_index.proofs.Incoming.{compared_is, none_issued}
use Rattle.dy_index.proofs.OfKeys.{found_is}
use Rattle.dy_index.proofs.incomings.is_issued_as.Goals as goal

-- the version of the dot is of its key, too
pub agrees-requires-clause-one_key : goal.agrees-requires-clause-one_key
agrees-requires-clause-one_key c =
    let part = option_copied c.args._part in
    let d = c.dot-dot.result in
    let made = c.requires.made ∙ ap (λ e. made_in part e.node) (sym c.dot-dot.ensures.value) in
    let known = c.requires.known in
    let found = found_is known.1.layout known.0 known.1.legal c.args.version.now.key part
    known.1.part d c.counter-counter.ensures.valid.1 (Some c.in-Some.issued)
    (sym (ap option_copied c.in-Some.is)
    ∙ (c.version_of.ensures ∙ ap (λ vs. slice_get vs (d.counter - 1)) made)) in
    found.1

pub agrees-requires-clause-one_dot : goal.agrees-requires-clause-one_dot
agrees-requires-clause-one_dot c =
    let part = option_copied c.args._part in
    let d = c.dot-dot.result in
    let made = c.requires.made ∙ ap (λ e. made_in part e.node) (sym c.dot-dot.ensures.value) in
    let known = c.requires.known in
    let found = found_is known.1.layout known.0 known.1.legal c.args.version.now.key part
    known.1.part d c.counter-counter.ensures.valid.1 (Some c.in-Some.issued)
    (sym (ap option_copied c.in-Some.is)
    ∙ (c.version_of.ensures ∙ ap (λ vs. slice_get vs (d.counter - 1)) made)) in
    found.2 ∙ c.dot-dot.ensures.value

-- the version of the dot is compared
pub returns-in-Some : goal.returns-in-Some
returns-in-Some c = λ steps is.
    let part = option_copied c.args._part in
    let v = c.args.version.now in
    let d = c.dot-dot.result in
    let made = c.requires.made ∙ ap (λ e. made_in part e.node) (sym c.dot-dot.ensures.value) in
    let found = found_is is.layout steps is.legal v.key part is.part d
    c.counter-counter.ensures.valid.1 (Some c.in-Some.issued)
    (sym (ap option_copied c.in-Some.is)
    ∙ (c.version_of.ensures ∙ ap (λ vs. slice_get vs (d.counter - 1)) made)) in
    compared_is (world_after steps).versions (log_sound is.layout steps is.legal).ordered
    c.agrees.result c.in-Some.issued.now v
    found.0 found.1 (found.2 ∙ c.dot-dot.ensures.value) c.agrees.ensures

-- the key has no version of the dot
pub returns-in-None : goal.returns-in-None
returns-in-None c = λ steps is.
    let part = option_copied c.args._part in
    let v = c.args.version.now in
    let d = c.dot-dot.result in
    let made = c.requires.made ∙ ap (λ e. made_in part e.node) (sym c.dot-dot.ensures.value) in
    none_issued (world_after steps).versions v
    ((λ i. is_issued (world_after steps).versions v.key (sym c.dot-dot.ensures.value i))
    ∙ found_is is.layout steps is.legal v.key part is.part d
    c.counter-counter.ensures.valid.1 None
    (sym (ap option_copied c.in-None.is)
    ∙ (c.version_of.ensures ∙ ap (λ vs. slice_get vs (d.counter - 1)) made)))
