use Rattle.std.proofs.Common.{[], map, refl, ap, ◌∙◌, subst}
use Rattle.std.specs.Option.{option_copied}
use Rattle.dy_siblings.specs.declared.versions.Version.{Version}
use Rattle.dy_core.specs.Logs.{world_after}
use Rattle.dy_core.specs.inside.Meanings.{row_in}
use Rattle.dy_index.specs.Indexes.{IsPart}
use Rattle.dy_index.proofs.Dotting.{lists_dots}
use Rattle.dy_index.proofs.reads.held_dots.Goals as goal

pub returns-in-Some : goal.returns-in-Some
returns-in-Some c = λ steps is.
    let holder = c.args.place.holder in
    let home = c.args.place.home in
    let key = c.args.key.now in
    let part = subst (IsPart (world_after steps) key) (ap option_copied c.in-Some.is) is.part in
    lists_dots is.layout steps is.legal holder home key
    (row_in c.in-Some.part.now.places.items holder home key) (part.rows_are holder home)
    c.dots_at.result.now
    (c.dots_at.ensures.value
    ∙ ap (λ hs. map (λ (v : Version). v.dot) (row_in hs holder home key))
    c.as_slice.ensures.value) c.dots_at.ensures.rise

pub returns-in-None : goal.returns-in-None
returns-in-None c = λ steps is.
    let holder = c.args.place.holder in
    let home = c.args.place.home in
    let key = c.args.key.now in
    let part = subst (IsPart (world_after steps) key) (ap option_copied c.in-None.is) is.part in
    lists_dots is.layout steps is.legal holder home key [] (part.rows_are holder home) [] refl tt
