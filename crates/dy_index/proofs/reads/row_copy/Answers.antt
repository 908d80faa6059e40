use Rattle.std.proofs.Common.{sym, ap, subst}
use Rattle.std.proofs.lemmas.Result.{IfOk-weaker}
use Rattle.std.specs.Option.{option_copied}
use Rattle.dy_siblings.specs.Siblings.{Siblings, IsSameRow}
use Rattle.dy_core.specs.Worlds.{row_at}
use Rattle.dy_core.specs.inside.Meanings.{row_in}
use Rattle.dy_index.specs.Indexes.{IsPart}
use Rattle.dy_index.proofs.reads.row_copy.Goals as goal

pub returns-in-Some-clause-row : goal.returns-in-Some-clause-row
returns-in-Some-clause-row c = λ w of_key.
    let part = subst (IsPart w c.args.key.now) (ap option_copied c.in-Some.is) of_key in
    IfOk-weaker c.copy_at.result _ _
    (λ row is. subst (λ (s : Siblings). IsSameRow s.versions
    (row_at w c.args.holder c.args.home c.args.key.now)) (sym is)
    (subst (λ hs. IsSameRow (row_in hs c.args.holder c.args.home c.args.key.now)
    (row_at w c.args.holder c.args.home c.args.key.now)) (sym c.as_slice.ensures.value)
    (part.rows_are c.args.holder c.args.home)))
    c.copy_at.ensures.ok

pub returns-in_ok-key-in-None-clause-row : goal.returns-in_ok-key-in-None-clause-row
returns-in_ok-key-in-None-clause-row c = λ w of_key.
    let part = subst (IsPart w c.args.key.now) (ap option_copied c.in-None.is) of_key in
    subst (λ (s : Siblings). IsSameRow s.versions
    (row_at w c.args.holder c.args.home c.args.key.now)) (sym c.new.ensures)
    (part.rows_are c.args.holder c.args.home)
