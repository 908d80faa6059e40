-- The receipts that were chosen are of the put's key and dot, so the ack is of them.
use Rattle.std.proofs.Common.{ℕ, sym, ◌∙◌, refl, subst, inl, inr}
use Rattle.std.proofs.lemmas.Bool.{true≢false}
use Rattle.dy_quorum.specs.Tallies.{CanChoose, IsChoice}
use Rattle.dy_coord.proofs.Acked.{ack_is_last}
use Rattle.dy_coord.proofs.Holders.{chosen_of}
use Rattle.dy_coord.proofs.put_tasks.PutTask.conclude.Goals as goal

pub record-requires-clause-count : goal.record-requires-clause-count
record-requires-clause-count g c =
    let mine : IsChoice c.args.self.now.w c.args.tally.added c.into_receipts-receipts.result.items =
    rw c.requires.w at c.into_receipts-receipts.ensures.choice in
    mine.count

pub record-requires-clause-one_dot : goal.record-requires-clause-one_dot
record-requires-clause-one_dot g c =
    let mine : IsChoice c.args.self.now.w c.args.tally.added c.into_receipts-receipts.result.items =
    rw c.requires.w at c.into_receipts-receipts.ensures.choice in (
      c.args.self.now.key.now,
      c.args.dot,
      chosen_of c.args.self.now.key.now c.args.dot c.args.self.now.w c.args.tally.added
          c.into_receipts-receipts.result.items c.requires.of_one mine,
    )

pub record-requires-clause-homes : goal.record-requires-clause-homes
record-requires-clause-homes g c =
    let mine : IsChoice c.args.self.now.w c.args.tally.added c.into_receipts-receipts.result.items =
    rw c.requires.w at c.into_receipts-receipts.ensures.choice in
    mine.homes

pub record-requires-clause-holders : goal.record-requires-clause-holders
record-requires-clause-holders g c =
    let mine : IsChoice c.args.self.now.w c.args.tally.added c.into_receipts-receipts.result.items =
    rw c.requires.w at c.into_receipts-receipts.ensures.choice in
    mine.holders

-- the try of the ack comes last, and changes nothing else
pub returns-in-Ok-clause-told : goal.returns-in-Ok-clause-told
returns-in-Ok-clause-told g c = rw c.record.ensures.told refl

pub returns-in-Err-clause-told : goal.returns-in-Err-clause-told
returns-in-Err-clause-told g c = rw c.record.ensures.told refl

pub returns-in-Ok-clause-ends : goal.returns-in-Ok-clause-ends
returns-in-Ok-clause-ends g c =
    let mine : IsChoice c.args.self.now.w c.args.tally.added c.into_receipts-receipts.result.items =
    rw c.requires.w at c.into_receipts-receipts.ensures.choice in
    let tells = c.in-Ok.ensures.ok c.args.self.now.key.now c.args.dot
    (chosen_of c.args.self.now.key.now c.args.dot c.args.self.now.w c.args.tally.added
    c.into_receipts-receipts.result.items c.requires.of_one mine) in
    inl (
      c.into_receipts-receipts.result,
      record { choice = mine; last = rw (c.record.ensures.told, c.in-Ok.is) refl },
      record {
        done = _;
        result_is = refl;
        dot_is = refl;
        spent_are = refl;
        answers_are = refl;
        tells = record {
          tells = tells;
          at_is = c.at-last.ensures
              ∙ (c.since.ensures ∙ ack_is_last _ _ c.args.self.now.key.now c.args.dot c.args.self.now.w _ tells);
        };
      },
    )

pub returns-in-Err-clause-ends : goal.returns-in-Err-clause-ends
returns-in-Err-clause-ends g c =
    let mine : IsChoice c.args.self.now.w c.args.tally.added c.into_receipts-receipts.result.items =
    rw c.requires.w at c.into_receipts-receipts.ensures.choice in
    inr (inl (
      c.in-Err.ensures.err,
      (
        _,
        refl,
        refl,
        c.new.ensures.items,
        (
          c.in-Err.ensures.refused,
          (
            c.into_receipts-receipts.result,
            record { choice = mine; last = rw (c.record.ensures.told, c.in-Err.is) refl },
          ),
        ),
      ),
    ))

-- where no w can be chosen, there are not enough
pub returns-then-not-ready-clause-ends : goal.returns-then-not-ready-clause-ends
returns-then-not-ready-clause-ends g c =
    let P : ℕ → Type 0 = λ n. CanChoose n c.args.tally.added in
    let lacks : CanChoose c.args.self.now.w c.args.tally.added → ⊥ = λ can. true≢false
    (sym (c.ready.ensures.1 (subst P (sym c.requires.w) can)) ∙ c.if-not-ready.true) in
    inr (inr (lacks, refl, refl, (_, refl, refl, refl, refl)))
