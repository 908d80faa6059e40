use Rattle.std.proofs.Common.{Some, None, sym, ap, ◌∙◌, subst}
use Rattle.std.specs.Option.{option_copied}
use Rattle.dy_core.specs.Listings.{ListsCovers, is_covering, place_of}
use Rattle.dy_core.specs.Orders.{place_cmp, gathered}
use Rattle.dy_index.specs.Indexes.{IsPart}
use Rattle.dy_index.proofs.Coverage.{covers_listed}
use Rattle.dy_index.proofs.reads.covering.Goals as goal

pub returns-in_ok-places-in-Some-clause-ok : goal.returns-in_ok-places-in-Some-clause-ok
returns-in_ok-places-in-Some-clause-ok c = λ w of_key.
    let key = c.args.key.now in
    let d = c.args.dot in
    subst (ListsCovers w key d)
    (sym (c.in_ok-places-in-Some.ensures.ok
    ∙ ap (gathered place_cmp (is_covering key d) place_of) c.as_slice.ensures.value))
    (covers_listed w key (Some c.in-Some.part.now)
    (subst (IsPart w key) (ap option_copied c.in-Some.is) of_key) d)

pub returns-in-None-clause-ok : goal.returns-in-None-clause-ok
returns-in-None-clause-ok c = λ w of_key.
    let key = c.args.key.now in
    subst (ListsCovers w key c.args.dot) (sym c.new.ensures.items)
    (covers_listed w key None (subst (IsPart w key) (ap option_copied c.in-None.is) of_key)
    c.args.dot)
