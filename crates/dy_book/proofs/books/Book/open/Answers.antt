use Rattle.std.proofs.Common.{◌≡◌, List, [], sym, refl, ap, ◌∙◌, subst, arith}
use Rattle.dy_core.specs.Worlds.{empty_world}
use Rattle.dy_shares.specs.declared.entries.Entry.{Entry}
use Rattle.dy_book.specs.inside.Kept.{IsBook}
use Rattle.dy_book.specs.Limits.{IsQuorum}
use Rattle.dy_index.specs.Indexes.{IsIndex}
use Rattle.dy_index.proofs.OfKeys.{empty_index}
use Rattle.dy_book.proofs.books.Book.open.Goals as goal

-- an empty log, and an empty index
pub invariant_of-book : goal.invariant_of-book
invariant_of-book g c =
    let log_is : c.in-Ok.opened.0.log ≡ [] = ap (λ a. a.log) c.in-Ok.ensures.log in
    let limits = c.has_limits.ensures.0 c.if-not-has_limits.false in
    let quorum = c.is_quorum.ensures.0 c.if-not-is_quorum.false in
    subst (λ (log : List Entry). IsBook g.J.Naming.ring g.J.Naming.n g.J.Naming.r log
    c.args.options 0 c.new.result.entries) (sym log_is)
    (record {
      n_is = c.requires.n;
      r_is = c.requires.r;
      limits = limits;
      quorum = subst (λ nodes. IsQuorum c.args.options nodes)
          (c.nodes.ensures.value ∙ ap (λ t. t.nodes) c.requires.ring) quorum;
      legal = tt;
      steps_few = let low = limits.steps_some in omega arith;
      versions_few = let low = limits.versions_some in omega arith;
      versions_are = refl;
      index = subst (IsIndex empty_world) (sym c.new.ensures.empty) empty_index;
    })
