use Rattle.std.proofs.Common.{◌≡◌, None, sym, ap, ◌∙◌, subst}
use Rattle.dy_index.specs.Indexes.{IsIndex, part_at}
use Rattle.dy_index.proofs.Indexing.{index_with_empty}
use Rattle.dy_index.proofs.Indexing.{none_is}
use Rattle.dy_index.proofs.holds.make_part.Goals as goal

pub returns-in_err-insert-clause-same : goal.returns-in_err-insert-clause-same
returns-in_err-insert-clause-same c =
    λ w index. subst (IsIndex w) (sym c.in_err-insert.ensures.err) index

-- an empty part for a key that had none
pub returns-clause-same : goal.returns-clause-same
returns-clause-same c = λ w index.
    let es = c.args.keys.now.entries in
    let none : part_at es c.args.key.now ≡ None =
    none_is (part_at es c.args.key.now)
    (sym c.contains_key.ensures ∙ c.if-contains_key.false) in
    index_with_empty es c.insert.new.self.entries c.in_ok-key.key c.new.result
    (ap (part_at es) c.in_ok-key.ensures.value ∙ none) c.new.ensures.made c.new.ensures.places
    c.in_ok-insert.ensures.updates.0 w index
