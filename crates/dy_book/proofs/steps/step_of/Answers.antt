-- A row that is kept by its dots is that of the log's hold.
use Rattle.std.proofs.Common.{sym, ap, ◌∙◌, subst}
use Rattle.dy_core.specs.declared.steps.Step.TheVariants.{Hold}
use Rattle.dy_shares.specs.Trails.{HasDots, Keeps}
use Rattle.dy_book.specs.inside.Readings.{IsLogged}
use Rattle.dy_book.proofs.Reading.{held_row}
use Rattle.dy_book.proofs.steps.step_of.Goals as goal

pub row_of-requires : goal.row_of-requires
row_of-requires c =
    let es = c.args.keys.now.entries in
    let l = c.requires.logged in
    let k = subst (λ x. Keeps x l.0) c.in-Held.is l.2 in
    record { logged = (k.0, held_row es c.in-Held.place k.0 (subst (IsLogged es) k.1 l.1), k.2) }

pub returns-in_ok-row-in-Held-clause-ok : goal.returns-in_ok-row-in-Held-clause-ok
returns-in_ok-row-in-Held-clause-ok c = λ s l keeps.
    let es = c.args.keys.now.entries in
    let k = subst (λ x. Keeps x s) c.in-Held.is keeps in
    ap (Hold c.in-Held.place)
    (c.in_ok-row-in-Held.ensures.ok k.0
    (held_row es c.in-Held.place k.0 (subst (IsLogged es) k.1 l)) k.2)
    ∙ sym k.1

pub row_of-requires-in-HeldRuns : goal.row_of-requires-in-HeldRuns
row_of-requires-in-HeldRuns c =
    let es = c.args.keys.now.entries in
    let l = c.requires.logged in
    let k = subst (λ x. Keeps x l.0) c.in-HeldRuns.is l.2 in
    record {
      logged = (
        k.0,
        held_row es c.in-HeldRuns.place k.0 (subst (IsLogged es) k.1 l.1),
        record {
          dots = c.deref.result.now;
          has = subst (HasDots k.0 c.in-HeldRuns.key) (sym c.deref.ensures) k.2;
          runs_of = c.runs.ensures.runs;
          are_dots = c.runs.ensures.valid;
        },
      );
    }

pub returns-in_ok-row-in-HeldRuns-clause-ok : goal.returns-in_ok-row-in-HeldRuns-clause-ok
returns-in_ok-row-in-HeldRuns-clause-ok c = λ s l keeps.
    let es = c.args.keys.now.entries in
    let k = subst (λ x. Keeps x s) c.in-HeldRuns.is keeps in
    ap (Hold c.in-HeldRuns.place)
    (c.in_ok-row-in-HeldRuns.ensures.ok k.0
    (held_row es c.in-HeldRuns.place k.0 (subst (IsLogged es) k.1 l))
    record {
      dots = c.deref.result.now;
      has = subst (HasDots k.0 c.in-HeldRuns.key) (sym c.deref.ensures) k.2;
      runs_of = c.runs.ensures.runs;
      are_dots = c.runs.ensures.valid;
    })
    ∙ sym k.1
