-- Nothing is held at the place, so the merge is the row, and is put among the places.
use Rattle.std.proofs.Common.{◌≡◌, ◌++◌, List, [], sym, ap, subst}
use Rattle.dy_siblings.specs.Siblings.{AreOneByDot, IsSameRow, merge}
use Rattle.dy_core.specs.Orders.{holding_cmp, put}
use Rattle.dy_core.specs.inside.Meanings.{row_in}
use Rattle.dy_core.specs.declared.holdings.Holding.{Holding}
use Rattle.dy_index.proofs.Besides.{nothing_there}
use Rattle.dy_index.proofs.merges.begin_first.Goals as goal

pub held_first-requires : goal.held_first-requires
held_first-requires c =
    let old : List Holding = c.args.places.now.items in
    let row = c.args.row.now in
    let empty : row_in old c.args.holder c.args.home row.key ≡ [] =
    nothing_there c.args.holder c.args.home row.key old c.requires.nothing in
    subst (λ vs. AreOneByDot (vs ++ row.versions)) empty c.requires.agree

pub returns-clause-held : goal.returns-clause-held
returns-clause-held c =
    let old : List Holding = c.args.places.now.items in
    let row = c.args.row.now in
    let custody = c.in_ok-custody.custody in
    let empty : row_in old c.args.holder c.args.home row.key ≡ [] =
    nothing_there c.args.holder c.args.home row.key old c.requires.nothing in
    record {
      held = custody;
      holder_is = c.in_ok-custody.ensures.holder;
      home_is = c.in_ok-custody.ensures.home;
      key_is = c.in_ok-custody.ensures.key;
      merged = subst (λ vs. IsSameRow custody.row.versions (merge vs row.versions)) (sym empty)
          c.in_ok-custody.ensures.row;
      placed = ap (λ hs. put holding_cmp hs custody) c.reserve.ensures.items;
    }
