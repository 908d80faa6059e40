-- The log grows by the fetch at its end, and its answer is the row of the world before it.
use Rattle.std.proofs.Common.{◌≡◌, ◌++◌, ◌∷◌, [], ◌+◌, List, length, length-append, sym, ap, ◌∙◌}
use Rattle.std.proofs.Common.{subst}
use Rattle.dy_siblings.specs.Siblings.{IsSameRow}
use Rattle.dy_core.specs.Worlds.{row_at}
use Rattle.dy_core.specs.Steps.{place_for}
use Rattle.dy_core.specs.Logs.{Answer, IsAnswer}
use Rattle.dy_core.specs.declared.steps.Step.TheVariants.{Fetch}
use Rattle.dy_shares.specs.declared.entries.Entry.{Entry}
use Rattle.dy_shares.specs.Shares.{Account, answer_of, steps_of, untold}
use Rattle.dy_shares.proofs.Scenes.{answers_last}
use Rattle.dy_book.specs.Books.{HasRoom, world_of}
use Rattle.dy_book.specs.inside.Kept.{IsBook}
use Rattle.dy_book.proofs.Bookkeeping.{fetch_book}
use Rattle.dy_book.proofs.books.Book.fetch_at.Goals as goal

pub invariant_of-self : goal.invariant_of-self
invariant_of-self g c =
    let b = c.self.inside in
    subst (λ (a : Account). IsBook g.J.Naming.ring g.J.Naming.n g.J.Naming.r a.log b.options
    b.versions b.keys.entries) (sym c.in_err-fetch_step.ensures.err) c.self.invariant

-- the log has the fetch as its last step
pub invariant_of-self-2 : goal.invariant_of-self-2
invariant_of-self-2 g c =
    let b = c.self.inside in
    let log_is : c.fetch_step.new.self.log ≡ b.ledger.log ++ untold
    (Fetch (place_for c.args.holder c.args.home) c.args.key.now) ∷ [] =
    ap (λ a. a.log) c.in_ok-fetch_step.ensures.log in
    let room = subst (λ s. HasRoom s 1) (sym c.self.view_is) c.requires in
    fetch_book g.J.Naming.ring g.J.Naming.n g.J.Naming.r b.ledger.log b.options b.versions
    b.keys.entries c.self.invariant
    c.args.holder c.args.home c.args.key.now room c.fetch_step.new.self.log log_is

-- its answer is the row as it was before
pub seen-requires : goal.seen-requires
seen-requires g c =
    let log = c.self.inside.ledger.log in
    let holder = c.args.holder in
    let home = c.args.home in
    let key = c.args.key.now in
    let row = c.in_ok-row.row in
    let e = untold (Fetch (place_for holder home) key) in
    let log_is : c.fetch_step.new.self.log ≡ log ++ e ∷ [] =
    ap (λ a. a.log) c.in_ok-fetch_step.ensures.log in
    let is = subst (λ s. IsSameRow row.versions (row_at (world_of s) holder home key))
    (sym c.self.view_is) c.in_ok-row.ensures.row in
    let here = answers_last log holder home key row.versions is in
    let at : length log + 1 ≡ c.steps-at.result =
    sym (c.steps-at.ensures.value ∙ (ap length log_is ∙ length-append log (e ∷ []))) in
    subst (λ (xs : List Entry). IsAnswer (steps_of xs)
    (answer_of c.steps-at.result holder home row.key row))
    (sym log_is)
    (subst (λ n. IsAnswer (steps_of (log ++ e ∷ []))
    (record {
      at = n;
      holder = holder;
      home = home;
      key = row.key;
      row = row.versions;
    })) at
    (subst (λ k. IsAnswer (steps_of (log ++ e ∷ []))
    (record { at = length log + 1; holder = holder; home = home; key = k; row = row.versions }))
    (sym c.in_ok-row.ensures.key) here))

pub returns-clause-row : goal.returns-clause-row
returns-clause-row g c =
    subst (λ (a : Answer). IsSameRow a.row
    (row_at (world_of c.args.self.now) c.args.holder c.args.home c.args.key.now))
    (sym c.seen.ensures) c.in_ok-row.ensures.row
